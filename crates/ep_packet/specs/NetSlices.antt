-- Kinds of network layer slices.
use Rattle.std.specs.Prelude.{Bool, true, false, ◌||◌, Option, Some, None}
use Rattle.ep_link.specs.declared.arp.arp_packet_slice.ArpPacketSlice.{ArpPacketSlice}
use Rattle.ep_ip.specs.declared.ip_slice.IpSlice.{IpSlice}
use Rattle.ep_ip.specs.declared.ip_slice.IpSlice.TheVariants as ip_slice
use Rattle.ep_ip.specs.declared.ipv4_slice.Ipv4Slice.{Ipv4Slice}
use Rattle.ep_ip.specs.declared.ipv6_slice.Ipv6Slice.{Ipv6Slice}
use Rattle.ep_packet.specs.declared.net_slice.NetSlice.{NetSlice}
use Rattle.ep_packet.specs.declared.net_slice.NetSlice.TheVariants as slice

-- True if the layer is IPv4.
abbrev pub is_ipv4_layer : NetSlice → Bool
is_ipv4_layer (slice.Ipv4 packet) = true
is_ipv4_layer (slice.Ipv6 packet) = false
is_ipv4_layer (slice.Arp packet) = false

-- True if the layer is IPv6.
abbrev pub is_ipv6_layer : NetSlice → Bool
is_ipv6_layer (slice.Ipv4 packet) = false
is_ipv6_layer (slice.Ipv6 packet) = true
is_ipv6_layer (slice.Arp packet) = false

-- True if the layer is IPv4 or IPv6.
abbrev pub is_ip_layer : NetSlice → Bool
is_ip_layer layer = is_ipv4_layer layer || is_ipv6_layer layer

-- True if the layer is ARP.
abbrev pub is_arp_layer : NetSlice → Bool
is_arp_layer (slice.Ipv4 packet) = false
is_arp_layer (slice.Ipv6 packet) = false
is_arp_layer (slice.Arp packet) = true

-- The IPv4 packet, if the layer is one.
abbrev pub ipv4_in : NetSlice → Option Ipv4Slice
ipv4_in (slice.Ipv4 packet) = Some packet
ipv4_in (slice.Ipv6 packet) = None
ipv4_in (slice.Arp packet) = None

-- The IPv6 packet, if the layer is one.
abbrev pub ipv6_in : NetSlice → Option Ipv6Slice
ipv6_in (slice.Ipv4 packet) = None
ipv6_in (slice.Ipv6 packet) = Some packet
ipv6_in (slice.Arp packet) = None

-- The ARP packet, if the layer is one.
abbrev pub arp_in : NetSlice → Option ArpPacketSlice
arp_in (slice.Ipv4 packet) = None
arp_in (slice.Ipv6 packet) = None
arp_in (slice.Arp packet) = Some packet

-- An IP packet of either version as a network layer slice.
abbrev pub net_slice_of : IpSlice → NetSlice
net_slice_of (ip_slice.Ipv4 packet) = slice.Ipv4 packet
net_slice_of (ip_slice.Ipv6 packet) = slice.Ipv6 packet
