-- The owned headers of a frame, and the payload after them.
use Rattle.std.specs.Prelude.{◌≡◌, ℕ, List, [], ◌∷◌, ◌++◌, map, Option, Some, None}
use Rattle.std.specs.Option.{option_map, option_and_then}
use Rattle.ep_link.specs.Arp.{Arp}
use Rattle.ep_link.specs.ArpSlices.{arp_of}
use Rattle.ep_link.specs.LinkExtensions.{extension_header}
use Rattle.ep_link.specs.LinkSlices.{link_header_of}
use Rattle.ep_link.specs.declared.link.link_header.LinkHeader.{LinkHeader}
use Rattle.ep_link.specs.declared.link_ext.link_ext_header.LinkExtHeader.{LinkExtHeader}
use Rattle.ep_link.specs.declared.link_ext.link_ext_header.LinkExtHeader.TheVariants as tag
use Rattle.ep_link.specs.declared.link_ext.single_vlan_header.SingleVlanHeader.{SingleVlanHeader}
use Rattle.ep_link.specs.declared.link_ext.vlan_header.VlanHeader.{VlanHeader}
use Rattle.ep_link.specs.declared.link_ext.vlan_header.VlanHeader.TheVariants as tags
use Rattle.ep_ext.specs.Ipv6Chains.{extensions_of}
use Rattle.ep_transport.specs.TransportParts.{TransportLayer}
use Rattle.ep_transport.specs.declared.transport_header.TransportHeader.{TransportHeader}
use Rattle.ep_packet.specs.IpHeaders.{ipv4_extensions_of}
use Rattle.ep_packet.specs.Layers.{Layers, NetLayer, ipv4, ipv6, arp}
use Rattle.ep_packet.specs.PayloadParts.{PayloadPart, empty, payload_part_of, payload_part_in}
use Rattle.ep_packet.specs.declared.ip_headers.IpHeaders.{IpHeaders}
use Rattle.ep_packet.specs.declared.ip_headers.IpHeaders.TheVariants as ip
use Rattle.ep_packet.specs.declared.net_headers.NetHeaders.{NetHeaders}
use Rattle.ep_packet.specs.declared.net_headers.NetHeaders.TheVariants as net
use Rattle.ep_packet.specs.declared.packet_headers.PacketHeaders.{PacketHeaders}

-- Network layer headers as plain data.
pub data NetHeader : Type 0 where
  ip_headers : IpHeaders → NetHeader
  arp_packet : Arp → NetHeader

-- The network layer headers of a `NetHeaders` value.
abbrev pub net_header_of : NetHeaders → NetHeader
net_header_of (net.Ipv4 header extensions) = ip_headers (ip.Ipv4 header extensions)
net_header_of (net.Ipv6 header extensions) = ip_headers (ip.Ipv6 header extensions)
net_header_of (net.Arp packet) = arp_packet (arp_of packet)

-- The headers of a network layer.
abbrev pub net_header_in : NetLayer → NetHeader
net_header_in (ipv4 header extensions payload) = ip_headers (ip.Ipv4 header (ipv4_extensions_of extensions))
net_header_in (ipv6 header extensions payload) = ip_headers (ip.Ipv6 header (extensions_of extensions))
net_header_in (arp packet) = arp_packet packet

-- The header of a transport layer.
abbrev pub transport_header_in : TransportLayer → TransportHeader
transport_header_in layer = layer.header

-- The headers of a frame as plain data, from the outside in, and the payload of the last layer.
pub record Headers : Type 0 where
  pub link : Option LinkHeader
  pub link_exts : List LinkExtHeader
  pub net : Option NetHeader
  pub transport : Option TransportHeader
  pub payload : PayloadPart

-- The headers of a packet without layers.
abbrev pub no_headers : Headers
no_headers = record { link = None; link_exts = []; net = None; transport = None; payload = empty }

-- The headers of a `PacketHeaders` value.
abbrev pub headers_of : PacketHeaders → Headers
headers_of packet = record {
  link = packet.link;
  link_exts = packet.link_exts.items;
  net = option_map net_header_of packet.net;
  transport = packet.transport;
  payload = payload_part_of packet.payload;
}

-- The headers of the layers of a frame. The payload of a link layer given by its ether type has no link header.
abbrev pub headers_in : Layers → Headers
headers_in layers = record {
  link = option_and_then link_header_of layers.link;
  link_exts = map extension_header layers.link_exts;
  net = option_map net_header_in layers.net;
  transport = option_map transport_header_in layers.transport;
  payload = payload_part_in layers;
}

-- The bytes are a contiguous part of `whole`.
abbrev pub IsSubsliceOf : List ℕ → List ℕ → Type 0
IsSubsliceOf bytes whole = (front back : List ℕ) × (whole ≡ front ++ (bytes ++ back))

-- ---- VLAN tags

-- The VLAN tags in a list of link extension headers, from the outside in.
abbrev pub vlan_headers : List LinkExtHeader → List SingleVlanHeader
vlan_headers [] = []
vlan_headers (tag.Vlan header ∷ others) = header ∷ vlan_headers others
vlan_headers (tag.Macsec header ∷ others) = vlan_headers others

-- The only tag of a list, or the first two as a double tag.
abbrev pub outer_headers : List SingleVlanHeader → Option VlanHeader
outer_headers [] = None
outer_headers (header ∷ []) = Some (tags.Single header)
outer_headers (outer ∷ inner ∷ others) = Some (tags.Double (record { outer = outer; inner = inner }))

-- The identifiers of the VLAN tags in a list of link extension headers, from the outside in.
abbrev pub header_vlan_ids : List LinkExtHeader → List ℕ
header_vlan_ids [] = []
header_vlan_ids (tag.Vlan header ∷ others) = header.vlan_id ∷ header_vlan_ids others
header_vlan_ids (tag.Macsec header ∷ others) = header_vlan_ids others
