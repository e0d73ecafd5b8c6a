-- Comparison of the public types: part by part, as declared.
use Rattle.std.specs.Prelude.{ℕ, Bool, false, ◌&&◌}
use Rattle.std.specs.Option.{option_eq}
use Rattle.std.specs.declared.cmp.Ordering.{Ordering}
use Rattle.std.specs.Ordering.{nat_cmp}
use Rattle.std.specs.Cmp.Lexicographic.{pointwise, slice_cmp}
use Rattle.ep_base.specs.NumberComparisons.{ether_payload_cmp, ip_payload_cmp}
use Rattle.ep_ext.specs.declared.ipv4_exts.Ipv4Extensions.{Ipv4Extensions}
use Rattle.ep_ext.specs.declared.ipv6_exts.Ipv6Extensions.{Ipv6Extensions}
use Rattle.ep_ip.specs.declared.ipv4_header.Ipv4Header.{Ipv4Header}
use Rattle.ep_ip.specs.declared.ipv4_slice.Ipv4Slice.{Ipv4Slice}
use Rattle.ep_ip.specs.declared.ipv6_header.Ipv6Header.{Ipv6Header}
use Rattle.ep_ip.specs.declared.ipv6_slice.Ipv6Slice.{Ipv6Slice}
use Rattle.ep_link.specs.declared.arp.arp_packet.ArpPacket.{ArpPacket}
use Rattle.ep_link.specs.declared.arp.arp_packet_slice.ArpPacketSlice.{ArpPacketSlice}
use Rattle.ep_link.specs.declared.link.link_header.LinkHeader.{LinkHeader}
use Rattle.ep_link.specs.declared.link.link_slice.LinkSlice.{LinkSlice}
use Rattle.ep_link.specs.declared.link_ext.link_ext_header.LinkExtHeader.{LinkExtHeader}
use Rattle.ep_link.specs.declared.link_ext.link_ext_slice.LinkExtSlice.{LinkExtSlice}
use Rattle.ep_transport.specs.declared.transport_header.TransportHeader.{TransportHeader}
use Rattle.ep_transport.specs.declared.transport_slice.TransportSlice.{TransportSlice}
use Rattle.ep_packet.specs.declared.ip_headers.IpHeaders.{IpHeaders}
use Rattle.ep_packet.specs.declared.ip_headers.IpHeaders.TheVariants as ip
use Rattle.ep_packet.specs.declared.net_headers.NetHeaders.{NetHeaders}
use Rattle.ep_packet.specs.declared.net_headers.NetHeaders.TheVariants as net
use Rattle.ep_packet.specs.declared.net_slice.NetSlice.{NetSlice}
use Rattle.ep_packet.specs.declared.net_slice.NetSlice.TheVariants as net_slice
use Rattle.ep_packet.specs.declared.packet_headers.PacketHeaders.{PacketHeaders}
use Rattle.ep_packet.specs.declared.payload_slice.PayloadSlice.{PayloadSlice}
use Rattle.ep_packet.specs.declared.payload_slice.PayloadSlice.TheVariants as slice
use Rattle.ep_packet.specs.declared.sliced_packet.SlicedPacket.{SlicedPacket}

-- An equality of values.
abbrev pub Equality : Type 0 → Type 0
Equality A = A → A → Bool

-- ---- values that are equal if each part is, by the equality of the part

-- IP headers are equal if they have one version and equal parts.
abbrev pub same_ip_headers : Equality Ipv4Header → Equality Ipv4Extensions → Equality Ipv6Header
    → Equality Ipv6Extensions → Equality IpHeaders
same_ip_headers ipv4 ipv4_exts ipv6 ipv6_exts (ip.Ipv4 header extensions) (ip.Ipv4 other others) =
    ipv4 header other && ipv4_exts extensions others
same_ip_headers ipv4 ipv4_exts ipv6 ipv6_exts (ip.Ipv4 header extensions) (ip.Ipv6 other others) = false
same_ip_headers ipv4 ipv4_exts ipv6 ipv6_exts (ip.Ipv6 header extensions) (ip.Ipv4 other others) = false
same_ip_headers ipv4 ipv4_exts ipv6 ipv6_exts (ip.Ipv6 header extensions) (ip.Ipv6 other others) =
    ipv6 header other && ipv6_exts extensions others

-- Network layer headers are equal if both are equal IP headers, or equal ARP packets.
abbrev pub same_net_headers : Equality IpHeaders → Equality ArpPacket → Equality NetHeaders
same_net_headers headers arp (net.Ipv4 header extensions) (net.Ipv4 other others) =
    headers (ip.Ipv4 header extensions) (ip.Ipv4 other others)
same_net_headers headers arp (net.Ipv6 header extensions) (net.Ipv6 other others) =
    headers (ip.Ipv6 header extensions) (ip.Ipv6 other others)
same_net_headers headers arp (net.Arp packet) (net.Arp other) = arp packet other
same_net_headers headers arp a b = false

-- Network layer slices are equal if they have one kind and equal parts.
abbrev pub same_net_slices : Equality Ipv4Slice → Equality Ipv6Slice → Equality ArpPacketSlice → Equality NetSlice
same_net_slices ipv4 ipv6 arp (net_slice.Ipv4 packet) (net_slice.Ipv4 other) = ipv4 packet other
same_net_slices ipv4 ipv6 arp (net_slice.Ipv6 packet) (net_slice.Ipv6 other) = ipv6 packet other
same_net_slices ipv4 ipv6 arp (net_slice.Arp packet) (net_slice.Arp other) = arp packet other
same_net_slices ipv4 ipv6 arp a b = false

-- Sliced packets are equal if each layer is absent in both, or equal.
abbrev pub same_sliced_packets : Equality LinkSlice → Equality LinkExtSlice → Equality NetSlice
    → Equality TransportSlice → Equality SlicedPacket
same_sliced_packets link extension net transport a b =
    option_eq link a.link b.link && (pointwise extension a.link_exts.items b.link_exts.items
    && (option_eq net a.net b.net && option_eq transport a.transport b.transport))

-- Decoded packets are equal if each header is absent in both, or equal, and the payloads are equal.
abbrev pub same_packet_headers : Equality LinkHeader → Equality LinkExtHeader → Equality NetHeaders
    → Equality TransportHeader → Equality PayloadSlice → Equality PacketHeaders
same_packet_headers link extension net transport payload a b =
    option_eq link a.link b.link && (pointwise extension a.link_exts.items b.link_exts.items
    && (option_eq net a.net b.net && (option_eq transport a.transport b.transport && payload a.payload b.payload)))

-- ---- order of payloads

-- Position of a payload's kind in the declaration.
abbrev pub payload_place : PayloadSlice → ℕ
payload_place slice.Empty = 0
payload_place (slice.Ether payload) = 1
payload_place (slice.MacsecMod bytes) = 2
payload_place (slice.Ip payload) = 3
payload_place (slice.Udp bytes) = 4
payload_place (slice.Tcp bytes) = 5
payload_place (slice.Icmpv4 bytes) = 6
payload_place (slice.Icmpv6 bytes) = 7

-- Payloads of one kind are ordered by their parts, other payloads by kind.
abbrev pub payload_cmp : PayloadSlice → PayloadSlice → Ordering
payload_cmp (slice.Ether a) (slice.Ether b) = ether_payload_cmp a b
payload_cmp (slice.MacsecMod a) (slice.MacsecMod b) = slice_cmp nat_cmp a.now b.now
payload_cmp (slice.Ip a) (slice.Ip b) = ip_payload_cmp a b
payload_cmp (slice.Udp a) (slice.Udp b) = slice_cmp nat_cmp a.now b.now
payload_cmp (slice.Tcp a) (slice.Tcp b) = slice_cmp nat_cmp a.now b.now
payload_cmp (slice.Icmpv4 a) (slice.Icmpv4 b) = slice_cmp nat_cmp a.now b.now
payload_cmp (slice.Icmpv6 a) (slice.Icmpv6 b) = slice_cmp nat_cmp a.now b.now
payload_cmp a b = nat_cmp (payload_place a) (payload_place b)
