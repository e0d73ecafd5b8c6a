-- The bytes that the slices of a packet show.
use Rattle.std.specs.Prelude.{◌≡◌, ℕ, List, [], ◌∷◌, ◌++◌, Option, Some, None}
use Rattle.ep_link.specs.declared.link.link_slice.LinkSlice.{LinkSlice}
use Rattle.ep_link.specs.declared.link_ext.link_ext_slice.LinkExtSlice.{LinkExtSlice}
use Rattle.ep_link.specs.ArpSlices.{arp_slice_bytes}
use Rattle.ep_link.specs.LinkSlices.{link_layer_of, link_layer_payload, link_slice_bytes}
use Rattle.ep_link.specs.LinkExtensions.{extension_payload, link_extension_of, link_ext_slice_bytes}
use Rattle.ep_ip.specs.Ipv4Slices.{ipv4_slice_bytes, ipv4_slice_payload}
use Rattle.ep_ip.specs.Ipv6Slices.{ipv6_slice_bytes, ipv6_slice_payload}
use Rattle.ep_transport.specs.declared.transport_slice.TransportSlice.{TransportSlice}
use Rattle.ep_transport.specs.TransportParts.{transport_slice_bytes}
use Rattle.ep_packet.specs.declared.net_slice.NetSlice.{NetSlice}
use Rattle.ep_packet.specs.declared.net_slice.NetSlice.TheVariants as slice
use Rattle.ep_packet.specs.declared.sliced_packet.SlicedPacket.{SlicedPacket}

-- The bytes begin with `front`. The rest are trailing bytes.
abbrev pub BeginsWith : List ℕ → List ℕ → Type 0
BeginsWith bytes front = (left : List ℕ) × (bytes ≡ front ++ left)

-- Bytes of a network layer slice.
abbrev pub net_slice_bytes : NetSlice → List ℕ
net_slice_bytes (slice.Ipv4 packet) = ipv4_slice_bytes packet
net_slice_bytes (slice.Ipv6 packet) = ipv6_slice_bytes packet
net_slice_bytes (slice.Arp packet) = arp_slice_bytes packet

-- Bytes of a network layer slice's payload, with the transport layer.
abbrev pub net_slice_payload : NetSlice → List ℕ
net_slice_payload (slice.Ipv4 packet) = (ipv4_slice_payload packet).bytes
net_slice_payload (slice.Ipv6 packet) = (ipv6_slice_payload packet).bytes
net_slice_payload (slice.Arp packet) = []

-- The transport slice, if any, shows a prefix of the bytes.
abbrev pub ShowsTransport : List ℕ → Option TransportSlice → Type 0
ShowsTransport bytes None = Unit
ShowsTransport bytes (Some transport) = BeginsWith bytes (transport_slice_bytes transport)

-- The network layer slice, if any, shows a prefix of the bytes, and the transport slice a prefix of its payload.
abbrev pub ShowsNet : List ℕ → Option NetSlice → Option TransportSlice → Type 0
ShowsNet bytes None transport = transport ≡ None
ShowsNet bytes (Some net) transport =
    BeginsWith bytes (net_slice_bytes net) × ShowsTransport (net_slice_payload net) transport

-- The first link extension shows a prefix of the bytes, each further one a prefix of the payload before it, and so does
-- the network layer slice.
abbrev pub ShowsInside : List ℕ → List LinkExtSlice → Option NetSlice → Option TransportSlice → Type 0
ShowsInside bytes [] net transport = ShowsNet bytes net transport
ShowsInside bytes (extension ∷ others) net transport =
    BeginsWith bytes (link_ext_slice_bytes extension)
    × ShowsInside (extension_payload (link_extension_of extension)) others net transport

-- The link slice, if any, shows a prefix of the bytes, and the other slices show prefixes of its payload.
abbrev pub ShowsLink : List ℕ → Option LinkSlice → List LinkExtSlice → Option NetSlice → Option TransportSlice → Type 0
ShowsLink bytes None extensions net transport = ShowsInside bytes extensions net transport
ShowsLink bytes (Some link) extensions net transport =
    BeginsWith bytes (link_slice_bytes link)
    × ShowsInside (link_layer_payload (link_layer_of link)) extensions net transport

-- Each slice of a packet shows a prefix of the payload around it, the outermost one a prefix of the bytes. The rest are
-- trailing bytes.
abbrev pub ShowsBytes : List ℕ → SlicedPacket → Type 0
ShowsBytes bytes packet = ShowsLink bytes packet.link packet.link_exts.items packet.net packet.transport
