-- The flow of a TCP segment, and the counts after it.
use Rattle.std.specs.Prelude.{◌≡◌, ℕ, ◌+◌, ◌-◌, ◌^◌, min, List, length, Option, Some, None, Result, Ok, Err, unwrap_or}
use Rattle.std.specs.BTreeMap.{BTreeMap, get, Updates, IsUnchanged}
use Rattle.std.specs.Net.Addr.{IsV4And, IsV6And, ipv4_octets, ipv6_segments, segments_of}
use Rattle.std.specs.Net.Socket.{IsPlainSocket, socket_ip}
use Rattle.std.specs.Option.{option_and_then}
use Rattle.std.specs.declared.cmp.Ordering.{Ordering}
use Rattle.std.specs.declared.net.socket_addr.SocketAddr.{SocketAddr}
use Rattle.etherparse.specs.Bytes.{bit}
use Rattle.etherparse.specs.Layers.{Layers, NetLayer, ipv4, ipv6, arp}
use Rattle.etherparse.specs.TransportHeaders.{tcp_header_in}
use Rattle.etherparse.specs.TransportParts.{TransportLayer}
use Rattle.etherparse.specs.Types.TcpHeader.{TcpHeader}
use Rattle.example_flows.specs.declared.Count.{Count}

-- the source and the destination address of an IPv4 or IPv6 header
pub data Addresses : Type 0 where
  v4 : List ℕ → List ℕ → Addresses
  v6 : List ℕ → List ℕ → Addresses

-- the addresses of a network layer, or `None` if it is not IP
abbrev pub addresses_in : NetLayer → Option Addresses
addresses_in (ipv4 header extensions payload) = Some (v4 header.source header.destination)
addresses_in (ipv6 header extensions payload) = Some (v6 header.source header.destination)
addresses_in (arp packet) = None

-- a TCP segment: the IP addresses, the TCP header, and the length of the payload in bytes
pub record Segment : Type 0 where
  pub addresses : Addresses
  pub tcp : TcpHeader
  pub len : ℕ

-- the segment with these addresses and header, or `None` if one is missing
abbrev pub segment_between : Option Addresses → Option TcpHeader → ℕ → Option Segment
segment_between (Some addresses) (Some tcp) len = Some (record { addresses = addresses; tcp = tcp; len = len })
segment_between addresses tcp len = None

-- the segment in a transport layer after this network layer, or `None`
abbrev pub segment_over : Option NetLayer → TransportLayer → Option Segment
segment_over net layer =
    segment_between (option_and_then addresses_in net) (tcp_header_in layer.header) (length layer.payload)

-- the TCP segment in a frame with these layers, or `None`
abbrev pub segment_in : Layers → Option Segment
segment_in layers = option_and_then (segment_over layers.net) layers.transport

-- The socket address has this IPv4 address and port.
abbrev pub IsV4End : List ℕ → ℕ → SocketAddr → Type 0
IsV4End address port end = IsV4And (socket_ip end) (λ ip. ipv4_octets ip ≡ address) × IsPlainSocket end port

abbrev pub IsV6End : List ℕ → ℕ → SocketAddr → Type 0
IsV6End address port end =
    IsV6And (socket_ip end) (λ ip. ipv6_segments ip ≡ segments_of address) × IsPlainSocket end port

-- The flow has these addresses and ports.
abbrev pub IsFlow : Addresses → ℕ → ℕ → SocketAddr × SocketAddr → Type 0
IsFlow (v4 source destination) source_port destination_port flow =
    IsV4End source source_port flow.0 × IsV4End destination destination_port flow.1
IsFlow (v6 source destination) source_port destination_port flow =
    IsV6End source source_port flow.0 × IsV6End destination destination_port flow.1

-- the count of a flow without segments
abbrev pub nothing : Count
nothing = record { segments = 0; syn = 0; fin = 0; bytes = 0 }

-- the count after one more segment; each number stops at the maximum of 64 bits
abbrev pub with_segment : Count → TcpHeader → ℕ → Count
with_segment count tcp len = record {
  segments = min (count.segments + 1) (2 ^ 64 - 1);
  syn = min (count.syn + bit tcp.syn) (2 ^ 64 - 1);
  fin = min (count.fin + bit tcp.fin) (2 ^ 64 - 1);
  bytes = min (count.bytes + len) (2 ^ 64 - 1);
}

-- The flow is that of the segment.
abbrev pub IsFlowOf : Segment → SocketAddr × SocketAddr → Type 0
IsFlowOf segment flow = IsFlow segment.addresses segment.tcp.source_port segment.tcp.destination_port flow

-- The map counts a segment, if there is one: the count of its flow includes the segment, and all others are unchanged.
-- Out of memory is possible only for a new flow, and the map is then unchanged.
abbrev pub CountsSegment : {E : Type 0} → (SocketAddr × SocketAddr → SocketAddr × SocketAddr → Ordering)
    → Option Segment → BTreeMap (SocketAddr × SocketAddr) Count → BTreeMap (SocketAddr × SocketAddr) Count
    → Result (Unit {0}) E → Type 0
CountsSegment cmp (Some segment) old new (Ok done) =
    (flow : SocketAddr × SocketAddr) × IsFlowOf segment flow
    × Updates cmp old new flow (Some (with_segment (unwrap_or (get cmp old flow) nothing) segment.tcp segment.len))
CountsSegment cmp (Some segment) old new (Err error) =
    (flow : SocketAddr × SocketAddr) × IsFlowOf segment flow × (get cmp old flow ≡ None) × IsUnchanged old new
CountsSegment cmp None old new result = (new ≡ old) × (result ≡ Ok tt)

-- The map counts the segment in a frame with these layers, if there is one.
abbrev pub Counts : {E : Type 0} → (SocketAddr × SocketAddr → SocketAddr × SocketAddr → Ordering) → Layers
    → BTreeMap (SocketAddr × SocketAddr) Count → BTreeMap (SocketAddr × SocketAddr) Count → Result (Unit {0}) E → Type 0
Counts cmp layers old new result = CountsSegment cmp (segment_in layers) old new result
