-- Contents of single-layer slices from lax slicing.
use Rattle.std.specs.Prelude.{◌≡◌, ℕ, ◌++◌, Bool, List, Option}
use Rattle.std.specs.Option.{option_map}
use Rattle.ep_base.specs.IpPayload.{IpPayload, lax_ip_payload_of}
use Rattle.ep_base.specs.LaxCut.{LaxCut}
use Rattle.ep_base.specs.declared.err.ip_auth.HeaderSliceError.{HeaderSliceError as AuthSliceError}
use Rattle.ep_base.specs.declared.err.ipv6_exts.HeaderSliceError.{HeaderSliceError as ExtsSliceError}
use Rattle.ep_ext.specs.ExtensionParts.{ExtensionPart, auth_refusal}
use Rattle.ep_ext.specs.Ipv4Chains.{ipv4_slice_parts, ipv4_slice_bytes as ipv4_extension_bytes}
use Rattle.ep_ext.specs.Ipv6ExtensionSlices.{ipv6_slice_parts, ipv6_slice_bytes as ipv6_extension_bytes}
use Rattle.ep_ip.specs.declared.ipv4_header.Ipv4Header.{Ipv4Header}
use Rattle.ep_ip.specs.declared.ipv6_header.Ipv6Header.{Ipv6Header}
use Rattle.ep_ip.specs.Ipv4Slices.{ipv4_header_slice_header, ipv4_header_slice_bytes}
use Rattle.ep_ip.specs.Ipv6Slices.{ipv6_header_slice_header, ipv6_header_slice_bytes}
use Rattle.ep_link.specs.Macsec.{MacsecPayload, unmodified, modified, macsec_payload_bytes}
use Rattle.ep_link.specs.MacsecSlices.{macsec_header_slice_header, macsec_header_slice_bytes}
use Rattle.ep_link.specs.declared.link_ext.macsec_header.MacsecHeader.{MacsecHeader}
use Rattle.ep_lax.specs.declared.lax_ipv4_slice.LaxIpv4Slice.{LaxIpv4Slice}
use Rattle.ep_lax.specs.declared.lax_ipv6_slice.LaxIpv6Slice.{LaxIpv6Slice}
use Rattle.ep_lax.specs.declared.lax_macsec_payload_slice.LaxMacsecPayloadSlice.{LaxMacsecPayloadSlice}
use Rattle.ep_lax.specs.declared.lax_macsec_payload_slice.LaxMacsecPayloadSlice.TheVariants as slice
use Rattle.ep_lax.specs.declared.lax_macsec_slice.LaxMacsecSlice.{LaxMacsecSlice}
use Rattle.ep_ip.specs.LaxIp.{LaxIp}
use Rattle.ep_lax.specs.LaxMacsec.{IsLaxMacsec, lax_macsec_payload}

-- ---- IP

-- The header of an IPv4 packet.
abbrev pub lax_ipv4_slice_header : LaxIpv4Slice → Ipv4Header
lax_ipv4_slice_header slice = ipv4_header_slice_header slice.header

-- The extension headers that were read.
abbrev pub lax_ipv4_slice_extensions : LaxIpv4Slice → List ExtensionPart
lax_ipv4_slice_extensions slice = ipv4_slice_parts slice.extensions

-- The payload.
abbrev pub lax_ipv4_slice_payload : LaxIpv4Slice → IpPayload
lax_ipv4_slice_payload slice = lax_ip_payload_of slice.payload

-- True if bytes of the payload are missing.
abbrev pub lax_ipv4_slice_incomplete : LaxIpv4Slice → Bool
lax_ipv4_slice_incomplete slice = slice.payload.incomplete

-- The bytes after the header.
abbrev pub lax_ipv4_slice_content : LaxIpv4Slice → List ℕ
lax_ipv4_slice_content slice = ipv4_extension_bytes slice.extensions ++ slice.payload.payload.now

-- The bytes of the packet.
abbrev pub lax_ipv4_slice_bytes : LaxIpv4Slice → List ℕ
lax_ipv4_slice_bytes slice = ipv4_header_slice_bytes slice.header ++ lax_ipv4_slice_content slice

-- The packet, the bytes excluded by its total length, and the error of its authentication header, if any.
abbrev pub lax_ipv4_of : LaxIpv4Slice → List ℕ → Option AuthSliceError → LaxIp Ipv4Header
lax_ipv4_of slice left stop = record {
  packet = record {
    header = lax_ipv4_slice_header slice;
    extensions = lax_ipv4_slice_extensions slice;
    payload = lax_ipv4_slice_payload slice;
    left = left;
  };
  incomplete = lax_ipv4_slice_incomplete slice;
  stop = option_map auth_refusal stop;
}

-- The header of an IPv6 packet.
abbrev pub lax_ipv6_slice_header : LaxIpv6Slice → Ipv6Header
lax_ipv6_slice_header slice = ipv6_header_slice_header slice.header

-- The extension headers that were read.
abbrev pub lax_ipv6_slice_extensions : LaxIpv6Slice → List ExtensionPart
lax_ipv6_slice_extensions slice = ipv6_slice_parts slice.extensions

-- The payload.
abbrev pub lax_ipv6_slice_payload : LaxIpv6Slice → IpPayload
lax_ipv6_slice_payload slice = lax_ip_payload_of slice.payload

-- True if bytes of the payload are missing.
abbrev pub lax_ipv6_slice_incomplete : LaxIpv6Slice → Bool
lax_ipv6_slice_incomplete slice = slice.payload.incomplete

-- The bytes after the header.
abbrev pub lax_ipv6_slice_content : LaxIpv6Slice → List ℕ
lax_ipv6_slice_content slice = ipv6_extension_bytes slice.extensions ++ slice.payload.payload.now

-- The bytes of the packet.
abbrev pub lax_ipv6_slice_bytes : LaxIpv6Slice → List ℕ
lax_ipv6_slice_bytes slice = ipv6_header_slice_bytes slice.header ++ lax_ipv6_slice_content slice

-- The packet, the bytes excluded by its payload length, and the error of an extension header, if any.
abbrev pub lax_ipv6_of : LaxIpv6Slice → List ℕ → Option ExtsSliceError → LaxIp Ipv6Header
lax_ipv6_of slice left stop = record {
  packet = record {
    header = lax_ipv6_slice_header slice;
    extensions = lax_ipv6_slice_extensions slice;
    payload = lax_ipv6_slice_payload slice;
    left = left;
  };
  incomplete = lax_ipv6_slice_incomplete slice;
  stop = stop;
}

-- ---- MACsec

-- The payload.
abbrev pub lax_macsec_payload_of : LaxMacsecPayloadSlice → MacsecPayload
lax_macsec_payload_of (slice.Unmodified payload) =
    unmodified payload.ether_type payload.len_source payload.payload.now
lax_macsec_payload_of (slice.Modified incomplete payload) = modified payload.now

-- True if bytes of the payload are missing.
abbrev pub lax_macsec_incomplete : LaxMacsecPayloadSlice → Bool
lax_macsec_incomplete (slice.Unmodified payload) = payload.incomplete
lax_macsec_incomplete (slice.Modified incomplete payload) = incomplete

-- The tag before the payload.
abbrev pub lax_macsec_slice_header : LaxMacsecSlice → MacsecHeader
lax_macsec_slice_header slice = macsec_header_slice_header slice.header

-- The payload after the tag.
abbrev pub lax_macsec_slice_payload : LaxMacsecSlice → MacsecPayload
lax_macsec_slice_payload slice = lax_macsec_payload_of slice.payload

-- True if bytes of the payload are missing.
abbrev pub lax_macsec_slice_incomplete : LaxMacsecSlice → Bool
lax_macsec_slice_incomplete slice = lax_macsec_incomplete slice.payload

-- The bytes of tag and payload.
abbrev pub lax_macsec_slice_bytes : LaxMacsecSlice → List ℕ
lax_macsec_slice_bytes slice =
    macsec_header_slice_bytes slice.header ++ macsec_payload_bytes (lax_macsec_slice_payload slice)

-- The bytes begin with the MACsec slice, limited as `cut` states, followed by the trailing bytes.
pub record ShowsLaxMacsec (outer : Bool) (bytes : List ℕ) (slice : LaxMacsecSlice) (cut : LaxCut) : Type 0 where
  pub parts : bytes ≡ lax_macsec_slice_bytes slice ++ cut.left
  pub is : IsLaxMacsec outer bytes (lax_macsec_slice_header slice, cut)
  pub payload : lax_macsec_slice_payload slice ≡ lax_macsec_payload (lax_macsec_slice_header slice) cut
  pub incomplete : lax_macsec_slice_incomplete slice ≡ cut.incomplete
