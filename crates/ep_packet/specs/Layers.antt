-- The layers of a frame as plain data, and the layers that a sliced packet shows.
use Rattle.std.specs.Prelude.{List, [], map, Option, Some, None, Bool, false}
use Rattle.std.specs.Option.{option_map, option_and_then, option_map_or}
use Rattle.ep_link.specs.Arp.{Arp}
use Rattle.ep_link.specs.ArpSlices.{arp_slice_packet}
use Rattle.ep_link.specs.LinkSlices.{LinkLayer, link_layer_of}
use Rattle.ep_link.specs.LinkExtensions.{LinkExtension, link_extension_of}
use Rattle.ep_base.specs.IpPayload.{IpPayload}
use Rattle.ep_ext.specs.ExtensionParts.{ExtensionPart}
use Rattle.ep_ip.specs.declared.ipv4_header.Ipv4Header.{Ipv4Header}
use Rattle.ep_ip.specs.declared.ipv6_header.Ipv6Header.{Ipv6Header}
use Rattle.ep_ip.specs.IpPackets.{IpPacket, IpPart, ipv4_part, ipv6_part}
use Rattle.ep_ip.specs.Ipv4Slices.{ipv4_slice_packet}
use Rattle.ep_ip.specs.Ipv6Slices.{ipv6_slice_packet}
use Rattle.ep_transport.specs.TransportParts.{TransportLayer, transport_layer_of}
use Rattle.ep_packet.specs.declared.net_slice.NetSlice.{NetSlice}
use Rattle.ep_packet.specs.declared.net_slice.NetSlice.TheVariants as slice
use Rattle.ep_packet.specs.declared.sliced_packet.SlicedPacket.{SlicedPacket}

-- A network layer: an IP header, its extension headers and its payload, or an ARP packet.
pub data NetLayer : Type 0 where
  ipv4 : Ipv4Header → List ExtensionPart → IpPayload → NetLayer
  ipv6 : Ipv6Header → List ExtensionPart → IpPayload → NetLayer
  arp : Arp → NetLayer

-- An IPv4 packet as a network layer.
abbrev pub ipv4_layer : IpPacket Ipv4Header → NetLayer
ipv4_layer packet = ipv4 packet.header packet.extensions packet.payload

-- An IPv6 packet as a network layer.
abbrev pub ipv6_layer : IpPacket Ipv6Header → NetLayer
ipv6_layer packet = ipv6 packet.header packet.extensions packet.payload

-- An IP packet of either version as a network layer.
abbrev pub ip_layer : IpPart → NetLayer
ip_layer (ipv4_part packet) = ipv4_layer packet
ip_layer (ipv6_part packet) = ipv6_layer packet

-- The layers of a frame, from the outside in.
pub record Layers : Type 0 where
  pub link : Option LinkLayer
  pub link_exts : List LinkExtension
  pub net : Option NetLayer
  pub transport : Option TransportLayer

-- The network layer that a slice shows.
abbrev pub net_layer_of : NetSlice → NetLayer
net_layer_of (slice.Ipv4 packet) = ipv4_layer (ipv4_slice_packet packet [])
net_layer_of (slice.Ipv6 packet) = ipv6_layer (ipv6_slice_packet packet [])
net_layer_of (slice.Arp packet) = arp (arp_slice_packet packet)

-- The layers that a sliced packet shows.
abbrev pub layers_of : SlicedPacket → Layers
layers_of packet = record {
  link = option_map link_layer_of packet.link;
  link_exts = map link_extension_of packet.link_exts.items;
  net = option_map net_layer_of packet.net;
  transport = option_map transport_layer_of packet.transport;
}

-- The payload of a network layer, if it is IP.
abbrev pub net_payload : NetLayer → Option IpPayload
net_payload (ipv4 header extensions payload) = Some payload
net_payload (ipv6 header extensions payload) = Some payload
net_payload (arp packet) = None

-- The payload of the IP packet, if the network layer is one.
abbrev pub ip_payload_in : Layers → Option IpPayload
ip_payload_in layers = option_and_then net_payload layers.net

-- True if the IP payload is a fragment of a larger payload.
abbrev pub carries_fragment : Layers → Bool
carries_fragment layers = option_map_or (λ (payload : IpPayload). payload.fragmented) (ip_payload_in layers) false

-- No layers.
abbrev pub no_layers : Layers
no_layers = record { link = None; link_exts = []; net = None; transport = None }
