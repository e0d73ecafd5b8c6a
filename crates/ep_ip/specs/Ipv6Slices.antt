-- Contents of IPv6 slices.
use Rattle.std.specs.Prelude.{◌≡◌, ℕ, List, ◌++◌}
use Rattle.ep_base.specs.IpPayload.{IpPayload, ip_payload_of}
use Rattle.ep_ext.specs.ExtensionParts.{ExtensionPart}
use Rattle.ep_ext.specs.Ipv6ExtensionSlices.{ipv6_slice_parts as extension_parts, ipv6_slice_bytes as extension_bytes}
use Rattle.ep_ext.specs.Ipv6ExtensionSlices.{ipv6_slice_number as extension_number}
use Rattle.ep_ip.specs.declared.ipv6_header.Ipv6Header.{Ipv6Header}
use Rattle.ep_ip.specs.declared.ipv6_header_slice.Ipv6HeaderSlice.{Ipv6HeaderSlice}
use Rattle.ep_ip.specs.declared.ipv6_slice.Ipv6Slice.{Ipv6Slice}
use Rattle.ep_ip.specs.IpPackets.{IpPacket}
use Rattle.ep_ip.specs.Ipv6.{ipv6_header_of}

-- the bytes of a header
abbrev pub ipv6_header_slice_bytes : Ipv6HeaderSlice → List ℕ
ipv6_header_slice_bytes slice = slice.bytes.slice.now

-- the header as an owned value
abbrev pub ipv6_header_slice_header : Ipv6HeaderSlice → Ipv6Header
ipv6_header_slice_header slice = ipv6_header_of (ipv6_header_slice_bytes slice)

-- the header of a packet
abbrev pub ipv6_slice_header : Ipv6Slice → Ipv6Header
ipv6_slice_header slice = ipv6_header_slice_header slice.header

-- the extension headers of a packet
abbrev pub ipv6_slice_extensions : Ipv6Slice → List ExtensionPart
ipv6_slice_extensions slice = extension_parts slice.extensions

-- the payload of a packet
abbrev pub ipv6_slice_payload : Ipv6Slice → IpPayload
ipv6_slice_payload slice = ip_payload_of slice.payload

-- the bytes of a packet after its IPv6 header: extension headers and payload
abbrev pub ipv6_slice_content : Ipv6Slice → List ℕ
ipv6_slice_content slice = extension_bytes slice.extensions ++ (ipv6_slice_payload slice).bytes

-- the bytes of a packet
abbrev pub ipv6_slice_bytes : Ipv6Slice → List ℕ
ipv6_slice_bytes slice = ipv6_header_slice_bytes slice.header ++ ipv6_slice_content slice

-- the packet of a slice with these trailing bytes after its payload length
abbrev pub ipv6_slice_packet : Ipv6Slice → List ℕ → IpPacket Ipv6Header
ipv6_slice_packet slice left = record {
  header = ipv6_slice_header slice;
  extensions = ipv6_slice_extensions slice;
  payload = ipv6_slice_payload slice;
  left = left;
}

-- The type of the first extension header is the header's next header.
abbrev pub FollowsIpv6Header : Ipv6Slice → Type 0
FollowsIpv6Header slice = extension_number slice.extensions ≡ (ipv6_slice_header slice).next_header.0

-- The packets have equal header bytes, equal extension headers (bytes, and type of the first), and equal payloads.
pub record ShowSameIpv6 (a b : Ipv6Slice) : Type 0 where
  pub header : ipv6_header_slice_bytes a.header ≡ ipv6_header_slice_bytes b.header
  pub first : extension_number a.extensions ≡ extension_number b.extensions
  pub extensions : extension_bytes a.extensions ≡ extension_bytes b.extensions
  pub payload : ipv6_slice_payload a ≡ ipv6_slice_payload b
