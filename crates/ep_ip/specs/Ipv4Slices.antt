-- Contents of IPv4 slices.
use Rattle.std.specs.Prelude.{◌≡◌, ℕ, List, ◌++◌, option_map}
use Rattle.ep_base.specs.IpPayload.{IpPayload, ip_payload_of}
use Rattle.ep_ext.specs.ExtensionParts.{ExtensionPart}
use Rattle.ep_ext.specs.IpAuthSlices.{ip_auth_slice_bytes}
use Rattle.ep_ext.specs.Ipv4Chains.{ipv4_slice_parts as extension_parts, ipv4_slice_bytes as extension_bytes}
use Rattle.ep_ip.specs.declared.ipv4_header.Ipv4Header.{Ipv4Header}
use Rattle.ep_ip.specs.declared.ipv4_header_slice.Ipv4HeaderSlice.{Ipv4HeaderSlice}
use Rattle.ep_ip.specs.declared.ipv4_slice.Ipv4Slice.{Ipv4Slice}
use Rattle.ep_ip.specs.IpPackets.{IpPacket}
use Rattle.ep_ip.specs.Ipv4.{ipv4_header_of}

-- the bytes of a header
abbrev pub ipv4_header_slice_bytes : Ipv4HeaderSlice → List ℕ
ipv4_header_slice_bytes slice = slice.bytes.slice.now

-- the header as an owned value
abbrev pub ipv4_header_slice_header : Ipv4HeaderSlice → Ipv4Header
ipv4_header_slice_header slice = ipv4_header_of (ipv4_header_slice_bytes slice)

-- the header of a packet
abbrev pub ipv4_slice_header : Ipv4Slice → Ipv4Header
ipv4_slice_header slice = ipv4_header_slice_header slice.header

-- the extension headers of a packet
abbrev pub ipv4_slice_extensions : Ipv4Slice → List ExtensionPart
ipv4_slice_extensions slice = extension_parts slice.extensions

-- the payload of a packet
abbrev pub ipv4_slice_payload : Ipv4Slice → IpPayload
ipv4_slice_payload slice = ip_payload_of slice.payload

-- the bytes of a packet after its IPv4 header: extension headers and payload
abbrev pub ipv4_slice_content : Ipv4Slice → List ℕ
ipv4_slice_content slice = extension_bytes slice.extensions ++ (ipv4_slice_payload slice).bytes

-- the bytes of a packet
abbrev pub ipv4_slice_bytes : Ipv4Slice → List ℕ
ipv4_slice_bytes slice = ipv4_header_slice_bytes slice.header ++ ipv4_slice_content slice

-- the packet of a slice with these trailing bytes after its total length
abbrev pub ipv4_slice_packet : Ipv4Slice → List ℕ → IpPacket Ipv4Header
ipv4_slice_packet slice left = record {
  header = ipv4_slice_header slice;
  extensions = ipv4_slice_extensions slice;
  payload = ipv4_slice_payload slice;
  left = left;
}

-- The packets have equal header bytes, equal bytes of the authentication header, and equal payloads.
pub record ShowSameIpv4 (a b : Ipv4Slice) : Type 0 where
  pub header : ipv4_header_slice_bytes a.header ≡ ipv4_header_slice_bytes b.header
  pub extensions : option_map ip_auth_slice_bytes a.extensions.auth ≡ option_map ip_auth_slice_bytes b.extensions.auth
  pub payload : ipv4_slice_payload a ≡ ipv4_slice_payload b
