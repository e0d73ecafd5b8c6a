-- Contents of MACsec slices.
use Rattle.std.specs.Prelude.{◌≡◌, ℕ, List, ◌++◌}
use Rattle.ep_base.specs.Tables.{Parts, parts_of}
use Rattle.ep_link.specs.declared.link_ext.macsec_header.MacsecHeader.{MacsecHeader}
use Rattle.ep_link.specs.declared.link_ext.macsec_header_slice.MacsecHeaderSlice.{MacsecHeaderSlice}
use Rattle.ep_link.specs.declared.link_ext.macsec_payload_slice.MacsecPayloadSlice.{MacsecPayloadSlice}
use Rattle.ep_link.specs.declared.link_ext.macsec_payload_slice.MacsecPayloadSlice.TheVariants as slice
use Rattle.ep_link.specs.declared.link_ext.macsec_slice.MacsecSlice.{MacsecSlice}
use Rattle.ep_link.specs.Macsec.{macsec_header_of, macsec_payload_bytes, MacsecPayload, unmodified, modified}

-- the bytes of the tag
abbrev pub macsec_header_slice_bytes : MacsecHeaderSlice → List ℕ
macsec_header_slice_bytes slice = slice.tag.slice.now

-- the tag as an owned value
abbrev pub macsec_header_slice_header : MacsecHeaderSlice → MacsecHeader
macsec_header_slice_header slice = macsec_header_of (macsec_header_slice_bytes slice)

-- the plain data of a payload slice
abbrev pub macsec_payload_of : MacsecPayloadSlice → MacsecPayload
macsec_payload_of (slice.Unmodified payload) = unmodified payload.ether_type payload.len_source payload.payload.now
macsec_payload_of (slice.Modified bytes) = modified bytes.now

-- the tag of a packet
abbrev pub macsec_slice_header : MacsecSlice → MacsecHeader
macsec_slice_header slice = macsec_header_slice_header slice.header

-- the payload of a packet
abbrev pub macsec_slice_payload : MacsecSlice → MacsecPayload
macsec_slice_payload slice = macsec_payload_of slice.payload

-- the bytes of the tag and the payload, even if the payload is modified
abbrev pub macsec_slice_bytes : MacsecSlice → List ℕ
macsec_slice_bytes slice = macsec_header_slice_bytes slice.header ++ macsec_payload_bytes (macsec_slice_payload slice)

-- the tag, the payload, and the trailing bytes after the payload
abbrev pub macsec_slice_parts : MacsecSlice → List ℕ → Parts MacsecHeader
macsec_slice_parts slice left =
    parts_of (macsec_slice_header slice) (macsec_payload_bytes (macsec_slice_payload slice)) left

-- two packets have equal bytes of the tag, including reserved bits, and the same payload
abbrev pub ShowSameMacsec : MacsecSlice → MacsecSlice → Type 0
ShowSameMacsec a b =
    (macsec_header_slice_bytes a.header ≡ macsec_header_slice_bytes b.header)
    × (macsec_slice_payload a ≡ macsec_slice_payload b)
