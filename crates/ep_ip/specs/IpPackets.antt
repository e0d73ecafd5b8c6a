-- IP packets with their extension headers: the header, the chain of extension headers, and the payload, whose end is
-- set by the header's length field (RFC 791, 3.1; RFC 4302, 3.1.1; RFC 8200, 3 and 4).
use Rattle.std.specs.Prelude.{◌≡◌, ℕ, ◌==◌, ◌||◌, ◌⊎◌, not, Bool, List, [], ◌∷◌, length}
use Rattle.ep_base.specs.IpPayload.{IpPayload}
use Rattle.ep_base.specs.Readings.{Reading, after_header, len_error}
use Rattle.ep_base.specs.Tables.{Parts, parts_of, Refuses, RefusesAs}
use Rattle.ep_base.specs.declared.err.layer.Layer.TheVariants as layer
use Rattle.ep_base.specs.declared.err.len_error.LenError.{LenError}
use Rattle.ep_base.specs.declared.len_source.LenSource.{LenSource}
use Rattle.ep_base.specs.declared.len_source.LenSource.TheVariants as source
use Rattle.ep_base.specs.declared.err.ip.HeaderError.TheVariants as content
use Rattle.ep_base.specs.declared.err.ip.HeadersError.TheVariants as headers_error
use Rattle.ep_base.specs.declared.err.ip.SliceError.{SliceError}
use Rattle.ep_base.specs.declared.err.ip.SliceError.TheVariants as slice_error
use Rattle.ep_base.specs.declared.err.ip_auth.HeaderSliceError.{HeaderSliceError as AuthSliceError}
use Rattle.ep_base.specs.declared.err.ip_auth.HeaderSliceError.TheVariants as auth_error
use Rattle.ep_base.specs.declared.err.ipv4.HeaderError.TheVariants as ipv4_content
use Rattle.ep_base.specs.declared.err.ipv4.SliceError.{SliceError as Ipv4SliceError}
use Rattle.ep_base.specs.declared.err.ipv4.SliceError.TheVariants as ipv4_error
use Rattle.ep_base.specs.declared.err.ipv6.HeaderError.TheVariants as ipv6_content
use Rattle.ep_base.specs.declared.err.ipv6.SliceError.{SliceError as Ipv6SliceError}
use Rattle.ep_base.specs.declared.err.ipv6.SliceError.TheVariants as ipv6_error
use Rattle.ep_base.specs.declared.err.ipv6_exts.HeaderSliceError.{HeaderSliceError as ExtsSliceError}
use Rattle.ep_base.specs.declared.err.ipv6_exts.HeaderSliceError.TheVariants as exts_error
use Rattle.ep_ext.specs.Chains.{ipv4, ipv6, chain_of, chain_fragments, IsExtensionChain, RefusesExtensionChain}
use Rattle.ep_ext.specs.ExtensionParts.{ExtensionPart, auth_refusal}
use Rattle.ep_ip.specs.declared.ipv4_header.Ipv4Header.{Ipv4Header}
use Rattle.ep_ip.specs.declared.ipv6_header.Ipv6Header.{Ipv6Header}
use Rattle.ep_ip.specs.Ip.{version_of}
use Rattle.ep_ip.specs.Ipv4.{IsIpv4Packet, RefusesIpv4Packet, ipv4_header_len, is_ipv4_fragment}
use Rattle.ep_ip.specs.Ipv6.{IsIpv6Packet, RefusesIpv6Packet, ipv6_truncation_limit, ipv6_payload_source}

-- an IP packet: header, extension headers, payload, and the trailing bytes after the end set by the length field
pub record IpPacket (Header : Type 0) : Type 0 where
  pub header : Header
  pub extensions : List ExtensionPart
  pub payload : IpPayload
  pub left : List ℕ

-- ---- IPv4

-- The bytes are an IPv4 packet and its trailing bytes. The content, whose end is set by the total length, is a chain of
-- extension headers that starts with the header's protocol, and then the payload.
pub record IsIpv4 (reading : Reading) (bytes : List ℕ) (packet : IpPacket Ipv4Header) : Type 0 where
  pub content : List ℕ
  pub cut : IsIpv4Packet bytes (parts_of packet.header content packet.left)
  pub chain : IsExtensionChain ipv4 reading packet.header.protocol.0 content
      (chain_of packet.extensions packet.payload.number packet.payload.bytes)
  pub fragmented : packet.payload.fragmented ≡ is_ipv4_fragment packet.header
  pub source : packet.payload.source ≡ source.Ipv4HeaderTotalLen

-- the error of an IPv4 packet for an error of the authentication header after this header
abbrev pub ipv4_chain_refusal : Ipv4Header → AuthSliceError → Ipv4SliceError
ipv4_chain_refusal header (auth_error.Len error) =
    ipv4_error.Len (after_header (ipv4_header_len header) source.Ipv4HeaderTotalLen error)
ipv4_chain_refusal header (auth_error.Content error) = ipv4_error.Exts error

-- The content of an IPv4 packet is rejected with this error, as its extension headers are invalid or incomplete.
abbrev pub RefusesIpv4Chain : Reading → Parts Ipv4Header → Ipv4SliceError → Type 0
RefusesIpv4Chain reading cut = RefusesAs
    (ipv4_chain_refusal cut.header)
    (λ refusal. RefusesExtensionChain ipv4 reading cut.header.protocol.0 cut.payload (auth_refusal refusal))

-- The bytes are rejected as an IPv4 packet with this error: by a row of the packet's table, or by the extension
-- headers.
abbrev pub RefusesIpv4 : Reading → List ℕ → Ipv4SliceError → Type 0
RefusesIpv4 reading bytes error =
    RefusesIpv4Packet bytes error
    ⊎ ((cut : Parts Ipv4Header) × IsIpv4Packet bytes cut × RefusesIpv4Chain reading cut error)

-- ---- IPv6

-- The bytes are an IPv6 packet and its trailing bytes. The content, whose end is set by the payload length, is a chain
-- of extension headers that starts with the header's next header, and then the payload.
pub record IsIpv6 (reading : Reading) (bytes : List ℕ) (packet : IpPacket Ipv6Header) : Type 0 where
  pub content : List ℕ
  pub cut : IsIpv6Packet bytes (parts_of packet.header content packet.left)
  pub chain : IsExtensionChain ipv6 reading packet.header.next_header.0 content
      (chain_of packet.extensions packet.payload.number packet.payload.bytes)
  pub fragmented : packet.payload.fragmented ≡ chain_fragments packet.extensions
  pub source : packet.payload.source ≡ ipv6_payload_source packet.header content

-- the error of an IPv6 packet for an error of the extension headers in this content
abbrev pub ipv6_chain_refusal : Ipv6Header → List ℕ → ExtsSliceError → Ipv6SliceError
ipv6_chain_refusal header content (exts_error.Len error) =
    ipv6_error.Len (after_header 40 (ipv6_payload_source header content) error)
ipv6_chain_refusal header content (exts_error.Content error) = ipv6_error.Exts error

-- The content of an IPv6 packet is rejected with this error, as its extension headers are invalid or incomplete.
abbrev pub RefusesIpv6Chain : Reading → Parts Ipv6Header → Ipv6SliceError → Type 0
RefusesIpv6Chain reading cut = RefusesAs
    (ipv6_chain_refusal cut.header cut.payload)
    (RefusesExtensionChain ipv6 reading cut.header.next_header.0 cut.payload)

-- The bytes are rejected as an IPv6 packet with this error: by a row of the packet's table, or by the extension
-- headers.
abbrev pub RefusesIpv6 : Reading → List ℕ → Ipv6SliceError → Type 0
RefusesIpv6 reading bytes error =
    RefusesIpv6Packet bytes error
    ⊎ ((cut : Parts Ipv6Header) × IsIpv6Packet bytes cut × RefusesIpv6Chain reading cut error)

-- ---- either version

-- an IP packet of version 4 or 6
pub data IpPart : Type 0 where
  ipv4_part : IpPacket Ipv4Header → IpPart
  ipv6_part : IpPacket Ipv6Header → IpPart

-- the trailing bytes after the end set by the packet's length field
abbrev pub ip_left : IpPart → List ℕ
ip_left (ipv4_part packet) = packet.left
ip_left (ipv6_part packet) = packet.left

-- The bytes are an IP packet of version 4 or 6 and its trailing bytes. The first 4 bits are the version.
abbrev pub IsIp : Reading → List ℕ → IpPart → Type 0
IsIp reading bytes (ipv4_part packet) = IsIpv4 reading bytes packet
IsIp reading bytes (ipv6_part packet) = IsIpv6 reading bytes packet

-- the limit that the error reports if a packet that starts at byte `start` is truncated
abbrev pub ip_truncation_limit : ℕ → IpPart → LenError → LenSource
ip_truncation_limit start (ipv4_part packet) error = source.Slice
ip_truncation_limit start (ipv6_part packet) error = ipv6_truncation_limit start packet.header error

-- the errors for bytes without an IP version that is supported, in the order of the checks
abbrev pub ip_version_rows : List ℕ → List (Bool × SliceError)
ip_version_rows bytes =
    let version = version_of bytes in
    (length bytes == 0, slice_error.Len (len_error 1 0 source.Slice layer.IpHeader))
    ∷ (
      not (version == 4 || version == 6),
      slice_error.IpHeaders (headers_error.Ip (content.UnsupportedIpVersion version)),
    )
    ∷ []

-- an error of an IPv4 packet as an error of an IP packet of either version
abbrev pub of_ipv4_error : Ipv4SliceError → SliceError
of_ipv4_error (ipv4_error.Len error) = slice_error.Len error
of_ipv4_error (ipv4_error.Header (ipv4_content.UnexpectedVersion version)) =
    slice_error.IpHeaders (headers_error.Ip (content.UnsupportedIpVersion version))
of_ipv4_error (ipv4_error.Header (ipv4_content.HeaderLengthSmallerThanHeader ihl)) =
    slice_error.IpHeaders (headers_error.Ip (content.Ipv4HeaderLengthSmallerThanHeader ihl))
of_ipv4_error (ipv4_error.Exts error) = slice_error.IpHeaders (headers_error.Ipv4Ext error)

-- an error of an IPv6 packet as an error of an IP packet of either version
abbrev pub of_ipv6_error : Ipv6SliceError → SliceError
of_ipv6_error (ipv6_error.Len error) = slice_error.Len error
of_ipv6_error (ipv6_error.Header (ipv6_content.UnexpectedVersion version)) =
    slice_error.IpHeaders (headers_error.Ip (content.UnsupportedIpVersion version))
of_ipv6_error (ipv6_error.Exts error) = slice_error.IpHeaders (headers_error.Ipv6Ext error)

-- The bytes are rejected as an IP packet with this error: there are no bytes, the version is unsupported, or the packet
-- of that version is rejected by its header, its length field or its extension headers.
abbrev pub RefusesIp : Reading → List ℕ → SliceError → Type 0
RefusesIp reading bytes error =
    Refuses (ip_version_rows bytes) error
    ⊎ ((version_of bytes ≡ 4) × RefusesAs of_ipv4_error (RefusesIpv4 reading bytes) error)
    ⊎ ((version_of bytes ≡ 6) × RefusesAs of_ipv6_error (RefusesIpv6 reading bytes) error)
