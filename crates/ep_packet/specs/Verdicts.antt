-- Verdicts about the checksums of a packet: that of the IPv4 header (RFC 791, 3.1), and that of the UDP, TCP, ICMPv4 or
-- ICMPv6 message (RFC 768; RFC 9293, 3.1; RFC 792; RFC 4443, 2.3) between the addresses of its IP header.
use Rattle.std.specs.Prelude.{ℕ, zero, suc, ◌+◌, ◌-◌, ◌==◌, ◌||◌, nat_lt, if◌then◌else◌, Bool, true, false}
use Rattle.std.specs.Prelude.{List, ◌∷◌, ◌++◌, length, take, Option, Some, None}
use Rattle.std.specs.List.{list_any}
use Rattle.std.specs.Option.{option_and_then, option_map, option_map_or}
use Rattle.ep_base.specs.Checksum.{ones_sum}
use Rattle.ep_base.specs.IpNumbers.{icmpv6_number, tcp_number, udp_number}
use Rattle.ep_base.specs.IpPayload.{IpPayload}
use Rattle.ep_base.specs.declared.len_source.LenSource.{LenSource}
use Rattle.ep_base.specs.declared.len_source.LenSource.TheVariants as source
use Rattle.ep_ext.specs.ExtensionParts.{ExtensionPart, routing}
use Rattle.ep_ip.specs.Ipv4.{ipv4_header_len}
use Rattle.ep_transport.specs.PseudoHeaders.{pseudo_header_ipv4, pseudo_header_ipv6}
use Rattle.ep_transport.specs.TransportParts.{transport_layer_of, transport_slice_bytes}
use Rattle.ep_transport.specs.declared.transport_header.TransportHeader.{TransportHeader}
use Rattle.ep_transport.specs.declared.transport_header.TransportHeader.TheVariants as header
use Rattle.ep_transport.specs.declared.transport_slice.TransportSlice.{TransportSlice}
use Rattle.ep_packet.specs.Layers.{NetLayer, ipv4, ipv6, arp, layers_of, net_layer_of, net_payload}
use Rattle.ep_packet.specs.ShownBytes.{net_slice_bytes}
use Rattle.ep_packet.specs.declared.checksum_verdict.ChecksumVerdict.{ChecksumVerdict}
use Rattle.ep_packet.specs.declared.checksum_verdict.ChecksumVerdict.TheVariants.{Valid, Invalid, Absent, Unknown}
use Rattle.ep_packet.specs.declared.checksum_verdict.ChecksumVerdicts.{ChecksumVerdicts}
use Rattle.ep_packet.specs.declared.net_slice.NetSlice.{NetSlice}
use Rattle.ep_packet.specs.declared.sliced_packet.SlicedPacket.{SlicedPacket}

-- The verdict about a checksum that covers these bytes: it is valid if their one's complement sum is 65535 (RFC 1071).
abbrev pub sum_verdict : List ℕ → ChecksumVerdict
sum_verdict bytes = if ones_sum bytes == 65535 then Valid else Invalid

-- ---- between two addresses

-- The verdict about a message between two IPv4 addresses, whose pseudo header has 16 bits for the length.
abbrev pub message_verdict_ipv4 : List ℕ → List ℕ → ℕ → List ℕ → ChecksumVerdict
message_verdict_ipv4 source destination number message =
    if nat_lt 65535 (length message) then Unknown
    else sum_verdict (pseudo_header_ipv4 source destination number (length message) ++ message)

-- The verdict about a message between two IPv6 addresses, whose pseudo header has 32 bits for the length.
abbrev pub message_verdict_ipv6 : List ℕ → List ℕ → ℕ → List ℕ → ChecksumVerdict
message_verdict_ipv6 source destination number message =
    if nat_lt 4294967295 (length message) then Unknown
    else sum_verdict (pseudo_header_ipv6 source destination number (length message) ++ message)

-- The verdict about a message with this header between two IPv4 addresses. In UDP, checksum 0 means that the sender
-- computed none, and length 0 counts no bytes (RFC 2675, 4). ICMPv4 has no pseudo header, and none is defined for
-- ICMPv6 over IPv4.
abbrev pub verdict_ipv4 : List ℕ → List ℕ → TransportHeader → List ℕ → ChecksumVerdict
verdict_ipv4 source destination (header.Udp udp) message =
    if udp.checksum == 0 then Absent
    else if udp.length == length message then message_verdict_ipv4 source destination udp_number message
    else Unknown
verdict_ipv4 source destination (header.Tcp tcp) message =
    message_verdict_ipv4 source destination tcp_number message
verdict_ipv4 source destination (header.Icmpv4 icmp) message = sum_verdict message
verdict_ipv4 source destination (header.Icmpv6 icmp) message = Unknown

-- The verdict about a message with this header between two IPv6 addresses. Checksum 0 is invalid in UDP (RFC 8200,
-- 8.1).
abbrev pub verdict_ipv6 : List ℕ → List ℕ → TransportHeader → List ℕ → ChecksumVerdict
verdict_ipv6 source destination (header.Udp udp) message =
    if udp.checksum == 0 then Invalid
    else if udp.length == length message then message_verdict_ipv6 source destination udp_number message
    else Unknown
verdict_ipv6 source destination (header.Tcp tcp) message =
    message_verdict_ipv6 source destination tcp_number message
verdict_ipv6 source destination (header.Icmpv4 icmp) message = sum_verdict message
verdict_ipv6 source destination (header.Icmpv6 icmp) message =
    message_verdict_ipv6 source destination icmpv6_number message

-- ---- in an IP packet

-- True if no length field counts the payload: for a jumbogram (RFC 2675), or a segment that a network card splits.
abbrev pub is_uncounted : LenSource → Bool
is_uncounted source.Slice = true
is_uncounted other = false

-- True if the payload is a fragment, or if no length field counts it.
abbrev pub is_partial : IpPayload → Bool
is_partial payload = payload.fragmented || is_uncounted payload.source

-- True if an IPv4 option of this type is a source route: loose (131) or strict (137).
abbrev pub is_source_route : ℕ → Bool
is_source_route kind = kind == 131 || kind == 137

-- True if a source route is among IPv4 options after this number of bytes (RFC 791, 3.1). Option 0 ends the options, 1
-- is a single byte, and the length of another one counts its type and length bytes. An invalid length ends the options.
abbrev pub has_source_route_after : ℕ → List ℕ → Bool
has_source_route_after (suc skipped) (byte ∷ rest) = has_source_route_after skipped rest
has_source_route_after zero (kind ∷ len ∷ rest) =
    if kind == 0 then false
    else if kind == 1 then has_source_route_after 0 (len ∷ rest)
    else if nat_lt len 2 || nat_lt (2 + length rest) len then false
    else is_source_route kind || has_source_route_after (len - 1) (len ∷ rest)
has_source_route_after skipped rest = false

-- True if a source route is among IPv4 options: it may contain the destination address of the pseudo header.
abbrev pub has_source_route : List ℕ → Bool
has_source_route options = has_source_route_after 0 options

-- True if the extension header is a routing header.
abbrev pub is_routing : ExtensionPart → Bool
is_routing (routing header) = true
is_routing part = false

-- True if a routing header is among extension headers: it may contain the destination address of the pseudo header (RFC
-- 8200, 8.1).
abbrev pub has_routing : List ExtensionPart → Bool
has_routing parts = list_any is_routing parts

-- The verdict about the message with this header in a network layer. `incomplete` states whether bytes of it are missing.
abbrev pub message_verdict : NetLayer → Bool → TransportHeader → List ℕ → ChecksumVerdict
message_verdict (ipv4 header extensions payload) incomplete transport message =
    if incomplete || is_partial payload || has_source_route header.options then Unknown
    else verdict_ipv4 header.source header.destination transport message
message_verdict (ipv6 header extensions payload) incomplete transport message =
    if incomplete || is_partial payload || has_routing extensions then Unknown
    else verdict_ipv6 header.source header.destination transport message
message_verdict (arp packet) incomplete transport message = Unknown

-- ---- in a packet

-- The header of a transport layer, and its bytes with the payload.
abbrev pub message_of : TransportSlice → TransportHeader × List ℕ
message_of slice = ((transport_layer_of slice).header, transport_slice_bytes slice)

-- True if the network layer carries a fragment, which has no transport layer.
abbrev pub is_of_fragment : Option NetLayer → Bool
is_of_fragment layer =
    option_map_or (λ (payload : IpPayload). payload.fragmented) (option_and_then net_payload layer) false

-- The verdict about the transport layer of a packet; none without a transport layer, except for a fragment.
abbrev pub transport_verdict : Option NetLayer → Bool → Option (TransportHeader × List ℕ) → Option ChecksumVerdict
transport_verdict (Some layer) incomplete (Some message) = Some (message_verdict layer incomplete message.0 message.1)
transport_verdict None incomplete (Some message) = Some Unknown
transport_verdict layer incomplete None = if is_of_fragment layer then Some Unknown else None

-- The verdict about the IPv4 header at the start of the bytes of a network layer, if that is IPv4.
abbrev pub header_verdict : NetLayer → List ℕ → Option ChecksumVerdict
header_verdict (ipv4 header extensions payload) bytes = Some (sum_verdict (take (ipv4_header_len header) bytes))
header_verdict (ipv6 header extensions payload) bytes = None
header_verdict (arp packet) bytes = None

-- The verdict about the IPv4 header of a network layer slice, if that is IPv4.
abbrev pub slice_header_verdict : NetSlice → Option ChecksumVerdict
slice_header_verdict slice = header_verdict (net_layer_of slice) (net_slice_bytes slice)

-- The verdicts about the checksums of a packet that strict slicing accepts; so no byte of it is missing.
abbrev pub checksums_of : SlicedPacket → ChecksumVerdicts
checksums_of packet = record {
  ipv4_header = option_and_then slice_header_verdict packet.net;
  transport = transport_verdict (layers_of packet).net false (option_map message_of packet.transport);
}
