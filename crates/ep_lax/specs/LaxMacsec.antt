-- MACsec packets sliced laxly (IEEE 802.1AE, 9).
use Rattle.std.specs.Prelude.{◌==◌, ◌+◌, if◌then◌else◌, ℕ, Bool, List}
use Rattle.ep_base.specs.LaxCut.{LaxCut, IsLaxCut}
use Rattle.ep_base.specs.declared.len_source.LenSource.TheVariants as source
use Rattle.ep_link.specs.declared.link_ext.macsec_header.MacsecHeader.{MacsecHeader}
use Rattle.ep_link.specs.Macsec.{IsMacsecHeader, MacsecPayload, macsec_header_len, payload_by, sci_len}

-- The length in bytes of tag and payload that the short length states. It counts the bytes after the tag proper: the
-- ether type, if present, and the payload. The value 0 states no length.
abbrev pub macsec_stated_len : MacsecHeader → ℕ
macsec_stated_len tag = if tag.short_len == 0 then 0 else 6 + sci_len tag.sci + tag.short_len

-- The bytes begin with a tag, followed by a payload, limited by the short length if the field applies, and trailing
-- bytes. `outer` is true if the enclosing layer is incomplete.
pub record IsLaxMacsec (outer : Bool) (bytes : List ℕ) (read : MacsecHeader × LaxCut) : Type 0 where
  pub after_tag : List ℕ
  pub header : IsMacsecHeader bytes (read.0, after_tag)
  pub cut : IsLaxCut (macsec_header_len read.0) (macsec_stated_len read.0) source.MacsecShortLength outer
      (macsec_header_len read.0) after_tag read.1

-- The payload of a tag, limited like this.
abbrev pub lax_macsec_payload : MacsecHeader → LaxCut → MacsecPayload
lax_macsec_payload tag cut = payload_by tag.ptype cut.source cut.payload
