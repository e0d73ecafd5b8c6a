-- Kinds of network layer headers.
use Rattle.std.specs.Prelude.{ℕ, Bool, true, false, ◌||◌, Option, Some, None}
use Rattle.ep_ext.specs.declared.ipv4_exts.Ipv4Extensions.{Ipv4Extensions}
use Rattle.ep_ext.specs.declared.ipv6_exts.Ipv6Extensions.{Ipv6Extensions}
use Rattle.ep_ip.specs.declared.ipv4_header.Ipv4Header.{Ipv4Header}
use Rattle.ep_ip.specs.declared.ipv6_header.Ipv6Header.{Ipv6Header}
use Rattle.ep_link.specs.Arp.{arp_len}
use Rattle.ep_link.specs.ArpSlices.{arp_of}
use Rattle.ep_link.specs.declared.arp.arp_packet.ArpPacket.{ArpPacket}
use Rattle.ep_packet.specs.IpHeaders.{ip_headers_len}
use Rattle.ep_packet.specs.declared.ip_headers.IpHeaders.{IpHeaders}
use Rattle.ep_packet.specs.declared.ip_headers.IpHeaders.TheVariants as ip
use Rattle.ep_packet.specs.declared.net_headers.NetHeaders.{NetHeaders}
use Rattle.ep_packet.specs.declared.net_headers.NetHeaders.TheVariants as net

-- IP headers as network layer headers.
abbrev pub net_headers_of : IpHeaders → NetHeaders
net_headers_of (ip.Ipv4 header extensions) = net.Ipv4 header extensions
net_headers_of (ip.Ipv6 header extensions) = net.Ipv6 header extensions

-- True if the headers are IPv4.
abbrev pub are_ipv4 : NetHeaders → Bool
are_ipv4 (net.Ipv4 header extensions) = true
are_ipv4 (net.Ipv6 header extensions) = false
are_ipv4 (net.Arp packet) = false

-- True if the headers are IPv6.
abbrev pub are_ipv6 : NetHeaders → Bool
are_ipv6 (net.Ipv4 header extensions) = false
are_ipv6 (net.Ipv6 header extensions) = true
are_ipv6 (net.Arp packet) = false

-- True if the headers are IPv4 or IPv6.
abbrev pub are_ip : NetHeaders → Bool
are_ip headers = are_ipv4 headers || are_ipv6 headers

-- True if the headers are an ARP packet.
abbrev pub are_arp : NetHeaders → Bool
are_arp (net.Ipv4 header extensions) = false
are_arp (net.Ipv6 header extensions) = false
are_arp (net.Arp packet) = true

-- The IP headers, if the headers are IP.
abbrev pub ip_in : NetHeaders → Option IpHeaders
ip_in (net.Ipv4 header extensions) = Some (ip.Ipv4 header extensions)
ip_in (net.Ipv6 header extensions) = Some (ip.Ipv6 header extensions)
ip_in (net.Arp packet) = None

-- The header and the extension headers, if they are IPv4.
abbrev pub ipv4_in_net : NetHeaders → Option (Ipv4Header × Ipv4Extensions)
ipv4_in_net (net.Ipv4 header extensions) = Some (header, extensions)
ipv4_in_net (net.Ipv6 header extensions) = None
ipv4_in_net (net.Arp packet) = None

-- The header and the extension headers, if they are IPv6.
abbrev pub ipv6_in_net : NetHeaders → Option (Ipv6Header × Ipv6Extensions)
ipv6_in_net (net.Ipv4 header extensions) = None
ipv6_in_net (net.Ipv6 header extensions) = Some (header, extensions)
ipv6_in_net (net.Arp packet) = None

-- The ARP packet, if the headers are one.
abbrev pub arp_in_net : NetHeaders → Option ArpPacket
arp_in_net (net.Ipv4 header extensions) = None
arp_in_net (net.Ipv6 header extensions) = None
arp_in_net (net.Arp packet) = Some packet

-- Length of the headers in bytes.
abbrev pub net_headers_len : NetHeaders → ℕ
net_headers_len (net.Ipv4 header extensions) = ip_headers_len (ip.Ipv4 header extensions)
net_headers_len (net.Ipv6 header extensions) = ip_headers_len (ip.Ipv6 header extensions)
net_headers_len (net.Arp packet) = arp_len (arp_of packet)
