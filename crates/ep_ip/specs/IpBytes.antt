-- The bytes of IP packets as the sequence of their parts.
use Rattle.std.specs.Prelude.{◌≡◌, ℕ, ◌+◌, List, ◌++◌, length}
use Rattle.ep_ext.specs.Chains.{EncodesParts, parts_bytes}
use Rattle.ep_ext.specs.ExtensionParts.{ExtensionPart}
use Rattle.ep_ip.specs.declared.ipv4_header.Ipv4Header.{Ipv4Header}
use Rattle.ep_ip.specs.declared.ipv6_header.Ipv6Header.{Ipv6Header}
use Rattle.ep_ip.specs.Ipv4.{EncodesIpv4, ipv4_header_len}
use Rattle.ep_ip.specs.Ipv6.{FitsIpv6, ipv6_bytes}
use Rattle.ep_ip.specs.IpPackets.{IpPacket}

-- The bytes are an IPv4 header and its extension headers. Reserved bits may have any value.
abbrev pub EncodesIpv4Headers : List ℕ → Ipv4Header → List ExtensionPart → Type 0
EncodesIpv4Headers bytes header extensions =
    (front after : List ℕ) × EncodesIpv4 front header × EncodesParts after extensions × (bytes ≡ front ++ after)

-- The bytes are an IPv6 header and its extension headers. Reserved bits of the extension headers may have any value.
abbrev pub EncodesIpv6Headers : List ℕ → Ipv6Header → List ExtensionPart → Type 0
EncodesIpv6Headers bytes header extensions =
    FitsIpv6 header × ((after : List ℕ) × EncodesParts after extensions × (bytes ≡ ipv6_bytes header ++ after))

-- the length of an IPv4 header and its extension headers in bytes
abbrev pub ipv4_headers_len : Ipv4Header → List ExtensionPart → ℕ
ipv4_headers_len header extensions = ipv4_header_len header + length (parts_bytes extensions)

-- the length of an IPv6 header and its extension headers in bytes
abbrev pub ipv6_headers_len : List ExtensionPart → ℕ
ipv6_headers_len extensions = 40 + length (parts_bytes extensions)

-- The bytes are `len` bytes of headers for which `Encodes` holds, then the payload, then the trailing bytes after the
-- end set by the length field.
pub record AreInOrder {Header : Type 0} (bytes : List ℕ) (packet : IpPacket Header) (Encodes : List ℕ → Type 0)
    (len : ℕ) : Type 0 where
  pub headers : List ℕ
  pub encodes : Encodes headers
  pub len_is : length headers ≡ len
  pub parts : bytes ≡ (headers ++ packet.payload.bytes) ++ packet.left

-- The bytes are those of an IPv4 packet, followed by its trailing bytes.
abbrev pub AreIpv4Bytes : List ℕ → IpPacket Ipv4Header → Type 0
AreIpv4Bytes bytes packet = AreInOrder
    bytes
    packet
    (λ headers. EncodesIpv4Headers headers packet.header packet.extensions)
    (ipv4_headers_len packet.header packet.extensions)

-- The bytes are those of an IPv6 packet, followed by its trailing bytes.
abbrev pub AreIpv6Bytes : List ℕ → IpPacket Ipv6Header → Type 0
AreIpv6Bytes bytes packet = AreInOrder
    bytes
    packet
    (λ headers. EncodesIpv6Headers headers packet.header packet.extensions)
    (ipv6_headers_len packet.extensions)
