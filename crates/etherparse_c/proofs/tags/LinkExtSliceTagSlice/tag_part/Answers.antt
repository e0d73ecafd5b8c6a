use Rattle.std.proofs.Common.{ap, sym, ◌∙◌}
use Rattle.etherparse.specs.LinkExtensions.{link_extension_of}
use Rattle.etherparse.specs.MacsecSlices.{macsec_slice_payload}
use Rattle.etherparse.specs.Types.LinkExtSlice.{LinkExtSlice}
use Rattle.etherparse_c.specs.Description.{tag_part}
use Rattle.etherparse_c.proofs.tags.LinkExtSliceTagSlice.tag_part.Goals as goal

pub returns-in-Macsec : goal.returns-in-Macsec
returns-in-Macsec c =
    c.macsec_part.ensures (macsec_slice_payload c.in-Macsec.packet)
    ∙ sym (ap (λ (slice : LinkExtSlice). tag_part c.args.offset (link_extension_of slice)) c.in-Macsec.is)
