-- Agreement of a frame's layers in the reading as slices and in the reading as headers.
use Rattle.std.specs.Prelude.{◌≡◌, ⊤, ℕ, List, [], Option, Some, None}
use Rattle.ep_ext.specs.Chains.{NoKindTwice, StopsAtSecond}
use Rattle.ep_transport.specs.TransportParts.{TransportLayer}
use Rattle.ep_transport.specs.declared.transport_header.TransportHeader.{TransportHeader}
use Rattle.ep_transport.specs.declared.transport_header.TransportHeader.TheVariants as header
use Rattle.ep_transport.specs.Udp.{IsOfUdpLength}
use Rattle.ep_packet.specs.declared.err.slice_error.SliceError.{SliceError}
use Rattle.ep_packet.specs.declared.err.slice_error.SliceError.TheVariants.{Len}
use Rattle.ep_packet.specs.FrameBytes.{last_payload}
use Rattle.ep_packet.specs.Layers.{Layers, NetLayer, ipv4, ipv6, arp}
use Rattle.ep_packet.specs.ShownBytes.{BeginsWith}

-- No kind of IPv6 extension header occurs twice. Destination options after a routing header are a kind of their own.
abbrev pub HasNoSecondKind : Option NetLayer → Type 0
HasNoSecondKind None = ⊤
HasNoSecondKind (Some (ipv4 header extensions payload)) = ⊤
HasNoSecondKind (Some (ipv6 header extensions payload)) = NoKindTwice [] extensions
HasNoSecondKind (Some (arp packet)) = ⊤

-- The payload of a transport header in the reading as slices, and that in the reading as headers, are equal, except for
-- UDP: the length field limits only the first, which is a prefix of the second.
abbrev pub PayloadAgrees : TransportHeader → List ℕ → List ℕ → Type 0
PayloadAgrees (header.Udp datagram) payload other = BeginsWith other payload
PayloadAgrees (header.Tcp segment) payload other = payload ≡ other
PayloadAgrees (header.Icmpv4 message) payload other = payload ≡ other
PayloadAgrees (header.Icmpv6 message) payload other = payload ≡ other

-- The transport headers are equal, and their payloads agree.
abbrev pub TransportAgrees : Option TransportLayer → Option TransportLayer → Type 0
TransportAgrees None other = other ≡ None
TransportAgrees (Some layer) other = (second : TransportLayer) × (other ≡ Some second)
    × (layer.header ≡ second.header) × PayloadAgrees layer.header layer.payload second.payload

-- The last payloads agree. Without a transport layer they are equal.
abbrev pub LastAgrees : Option TransportLayer → List ℕ → List ℕ → Type 0
LastAgrees None payload other = payload ≡ other
LastAgrees (Some layer) payload other = PayloadAgrees layer.header payload other

-- The layers are equal, except that the UDP payload in the first is a prefix of the one in the second.
pub record Agree (layers other : Layers) : Type 0 where
  pub link : layers.link ≡ other.link
  pub link_exts : layers.link_exts ≡ other.link_exts
  pub net : layers.net ≡ other.net
  pub transport : TransportAgrees layers.transport other.transport
  pub payload : LastAgrees layers.transport (last_payload layers) (last_payload other)

-- ---- errors

-- An error of the UDP length field.
abbrev pub IsUdpLengthRefusal : SliceError → Type 0
IsUdpLengthRefusal (Len error) = IsOfUdpLength error
IsUdpLengthRefusal error = ⊥

-- The IPv6 extension headers stop, in the reading as headers, before a second one of a kind.
abbrev pub StopsAtSecondKind : Option NetLayer → Type 0
StopsAtSecondKind None = ⊥
StopsAtSecondKind (Some (ipv4 header extensions payload)) = ⊥
StopsAtSecondKind (Some (ipv6 header extensions payload)) = StopsAtSecond [] extensions payload.number
StopsAtSecondKind (Some (arp packet)) = ⊥
