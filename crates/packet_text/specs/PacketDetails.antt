-- Details of a packet besides the addresses, ports and lengths of its layers.
use Rattle.std.specs.Prelude.{◌≡◌, ℕ, List, [], ◌∷◌, ◌++◌, Option, Some, None}
use Rattle.etherparse.specs.VlanSlices.{vlan_slice_header}
use Rattle.etherparse.specs.TcpSlices.{tcp_slice_header}
use Rattle.etherparse.specs.Types.TransportSlice.{TransportSlice}
use Rattle.etherparse.specs.Types.TransportSlice.TheVariants as transport
use Rattle.etherparse.specs.LaxSlices.{lax_ipv4_slice_header, lax_ipv6_slice_header}
use Rattle.etherparse.specs.LaxVerdicts.{lax_checksums_of}
use Rattle.etherparse.specs.Types.LaxLinkExtSlice.{LaxLinkExtSlice}
use Rattle.etherparse.specs.Types.LaxLinkExtSlice.TheVariants as extension
use Rattle.etherparse.specs.Types.LaxNetSlice.{LaxNetSlice}
use Rattle.etherparse.specs.Types.LaxNetSlice.TheVariants as net
use Rattle.etherparse.specs.Types.LaxSlicedPacket.{LaxSlicedPacket}
use Rattle.packet_text.specs.ChecksumTexts.{header_checksum_text, transport_checksum_text}
use Rattle.packet_text.specs.HeaderDetails.{ipv4_details, ipv6_details, vlan_details}
use Rattle.packet_text.specs.TcpDetails.{IsTcpDetails}

-- the details of a link extension: the priority of a VLAN tag
abbrev pub tag_details : LaxLinkExtSlice → List ℕ
tag_details (extension.Vlan tag) = vlan_details (vlan_slice_header tag)
tag_details (extension.Macsec packet) = []

-- the details of all link extensions, from the outermost in
abbrev pub tags_details : List LaxLinkExtSlice → List ℕ
tags_details [] = []
tags_details (tag ∷ others) = tag_details tag ++ tags_details others

-- the details of a network layer: fields of an IPv4 or IPv6 header
abbrev pub net_layer_details : LaxNetSlice → List ℕ
net_layer_details (net.Ipv4 packet) = ipv4_details (lax_ipv4_slice_header packet)
net_layer_details (net.Ipv6 packet) = ipv6_details (lax_ipv6_slice_header packet)
net_layer_details (net.Arp packet) = []

-- the details of the network layer, if present
abbrev pub net_details : Option LaxNetSlice → List ℕ
net_details (Some layer) = net_layer_details layer
net_details None = []

-- The text has the details of the transport layer: window and options of TCP.
abbrev pub IsTransportDetails : Option TransportSlice → List ℕ → Type 0
IsTransportDetails (Some (transport.Udp datagram)) text = text ≡ []
IsTransportDetails (Some (transport.Tcp segment)) text = IsTcpDetails (tcp_slice_header segment) text
IsTransportDetails (Some (transport.Icmpv4 message)) text = text ≡ []
IsTransportDetails (Some (transport.Icmpv6 message)) text = text ≡ []
IsTransportDetails None text = text ≡ []

-- The text has the details of all layers, from the outermost in, and about the checksums of the IPv4 header and of the
-- transport layer.
abbrev pub IsPacketDetails : LaxSlicedPacket → List ℕ → Type 0
IsPacketDetails packet text =
    let verdicts = lax_checksums_of packet in
    (transport : List ℕ) × IsTransportDetails packet.transport transport
    × (text ≡ tags_details packet.link_exts.items ++ net_details packet.net ++ header_checksum_text verdicts.ipv4_header
    ++ transport ++ transport_checksum_text packet.transport verdicts.transport)
