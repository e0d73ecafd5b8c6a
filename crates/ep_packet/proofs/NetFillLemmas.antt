-- Decoding IP headers in place: the headers of a packet, and that they were decoded.
use Rattle.std.proofs.Common.{◌≡◌, ℕ, ◌+◌, ◌≤◌, false, List, [], length, refl, arith}
use Rattle.ep_base.specs.Readings.{headers}
use Rattle.ep_base.specs.Tables.{parts_of}
use Rattle.ep_base.specs.declared.err.ipv6_exts.HeaderSliceError.{HeaderSliceError}
use Rattle.ep_base.specs.declared.err.ipv6_exts.HeaderSliceError.TheVariants as header_error
use Rattle.ep_base.specs.declared.err.len_error.LenError.{LenError}
use Rattle.ep_ext.specs.Chains.{IsExtensionChain, RefusesExtensionChain, chain_fragments, chain_of, ipv6, is_ipv6_extension}
use Rattle.ep_ext.specs.ExtensionParts.{ExtensionPart}
use Rattle.ep_ext.proofs.ValueLemmas.{headers_end}
use Rattle.ep_ip.specs.declared.ipv6_header.Ipv6Header.{Ipv6Header}
use Rattle.ep_ip.specs.IpBytes.{ipv6_headers_len}
use Rattle.ep_ip.specs.IpPackets.{IsIpv6}
use Rattle.ep_ip.specs.Ipv6.{IsIpv6Packet, ipv6_payload_source}
use Rattle.ep_ip.proofs.ExtensionLawLemmas.{exts_within}
use Rattle.ep_ip.proofs.PacketLemmas.{shown_packet}
use Rattle.ep_packet.proofs.HeadersLemmas.{ipv6_content}
use Rattle.ep_packet.proofs.IpHeadersLemmas.{ipv6_by_value}

-- An IPv6 packet without extension headers is its header and its payload.
pub plain_ipv6 : (bytes content left : List ℕ) (header : Ipv6Header) → IsIpv6Packet bytes (parts_of header content left)
    → is_ipv6_extension header.next_header.0 ≡ false
    → IsIpv6 headers bytes (shown_packet header (chain_of [] header.next_header.0 content) false
    (ipv6_payload_source header content) left)
plain_ipv6 bytes content left header cut none =
    ipv6_by_value bytes content left header [] header.next_header.0 content cut
    (headers_end [] header.next_header.0 none, refl, refl)

-- The IPv6 header and its content are as long as the headers and the payload.
pub chain_content : (bytes content left : List ℕ) (header : Ipv6Header) (parts : List ExtensionPart) (number : ℕ)
    (rest : List ℕ) → IsIpv6Packet bytes (parts_of header content left)
    → IsExtensionChain ipv6 headers header.next_header.0 content (chain_of parts number rest)
    → 40 + length content ≡ ipv6_headers_len parts + length rest
chain_content bytes content left header parts number rest cut chain =
    let packet = shown_packet header (chain_of parts number rest) (chain_fragments parts)
    (ipv6_payload_source header content) left in
    let is : IsIpv6 headers bytes packet =
    record { content = content; cut = cut; chain = chain; fragmented = refl; source = refl } in
    ipv6_content bytes packet is

-- The length error of an IPv6 extension header starts within the packet.
pub exts_start : (header : Ipv6Header) (content : List ℕ) (size : ℕ) (found : HeaderSliceError) (error : LenError)
    → found ≡ header_error.Len error → RefusesExtensionChain ipv6 headers header.next_header.0 content found
    → 40 + length content ≤ size → 40 + error.layer_start_offset ≤ size
exts_start header content size found error same refused within =
    omega (arith, exts_within headers header.next_header.0 content found error same refused, within)
