-- Description of the layers of a frame for C: kind, offset and length of each. Each layer starts where the one before
-- it ends.
use Rattle.std.specs.Prelude.{ℕ, ◌+◌, ◌-◌, ◌*◌, ◌==◌, if◌then◌else◌, List, [], ◌∷◌, ◌++◌, length, replicate, Option, Some, None}
use Rattle.etherparse.specs.Bytes.{bit}
use Rattle.etherparse.specs.IpPayload.{IpPayload}
use Rattle.etherparse.specs.Readings.{limited_by}
use Rattle.etherparse.specs.Types.LenSource.{LenSource}
use Rattle.etherparse.specs.Types.LenSource.TheVariants as source
use Rattle.etherparse.specs.Types.Ipv6FragmentHeader.{Ipv6FragmentHeader}
use Rattle.etherparse.specs.Ipv4.{ipv4_header_len}
use Rattle.etherparse.specs.Types.Ipv4Header.{Ipv4Header}
use Rattle.etherparse.specs.LinkExtensions.{LinkExtension, vlan, macsec}
use Rattle.etherparse.specs.LinkSlices.{LinkLayer, ethernet2, linux_sll, ether_payload, linux_sll_payload}
use Rattle.etherparse.specs.TransportParts.{TransportLayer}
use Rattle.etherparse.specs.Types.TransportHeader.{TransportHeader}
use Rattle.etherparse.specs.Types.TransportHeader.TheVariants as transport
use Rattle.etherparse.specs.FrameFragments.{first_fragment}
use Rattle.etherparse.specs.FrameBytes.{last_payload}
use Rattle.etherparse.specs.Layers.{Layers, NetLayer, ipv4, ipv6, arp}
pub use Rattle.etherparse.specs.Offsets.{link_len, tag_len, tags_len, parts_len, net_len, transport_len, payload_offset}
use Rattle.etherparse.specs.Payloads.{extensions_len_source}
use Rattle.etherparse_c.specs.declared.packet.Part.{Part}
use Rattle.etherparse_c.specs.declared.packet.LinkExt.{LinkExt}
use Rattle.etherparse_c.specs.declared.packet.Ip.{Ip}
use Rattle.etherparse_c.specs.declared.packet.Payload.{Payload}
use Rattle.etherparse_c.specs.declared.packet.Refusal.{Refusal}
use Rattle.etherparse_c.specs.declared.packet.Packet.{Packet}

-- a header of this kind at this offset
abbrev pub part : ℕ → ℕ → ℕ → Part
part kind offset len = record { kind = kind; offset = offset; len = len }

-- ---- the link header

-- the kind of a link header: 1 for Ethernet II, 2 for a Linux cooked capture, 0 for none
abbrev pub link_kind : Option LinkLayer → ℕ
link_kind None = 0
link_kind (Some (ethernet2 header payload)) = 1
link_kind (Some (linux_sll header payload)) = 2
link_kind (Some (ether_payload type source payload)) = 0
link_kind (Some (linux_sll_payload protocol payload)) = 0

-- the link header, at offset 0
abbrev pub link_part : Option LinkLayer → Part
link_part link = part (link_kind link) 0 (link_len link)

-- ---- the tags of link extensions

-- the kind of a tag: 1 for VLAN, 2 for MACsec
abbrev pub tag_kind : LinkExtension → ℕ
tag_kind (vlan tag payload) = 1
tag_kind (macsec tag payload) = 2

-- the identifier of a VLAN tag, 0 for MACsec
abbrev pub tag_vlan_id : LinkExtension → ℕ
tag_vlan_id (vlan tag payload) = tag.vlan_id
tag_vlan_id (macsec tag payload) = 0

-- a tag at this offset
abbrev pub tag_part : ℕ → LinkExtension → LinkExt
tag_part offset extension = record {
  kind = tag_kind extension;
  vlan_id = tag_vlan_id extension;
  offset = offset;
  len = tag_len extension;
}

-- consecutive tags, the first at this offset
abbrev pub tag_parts : ℕ → List LinkExtension → List LinkExt
tag_parts offset [] = []
tag_parts offset (extension ∷ others) = tag_part offset extension ∷ tag_parts (offset + tag_len extension) others

-- no tag
abbrev pub no_tag : LinkExt
no_tag = record { kind = 0; vlan_id = 0; offset = 0; len = 0 }

-- the three tag slots: the tags, then empty slots
abbrev pub tag_slots : ℕ → List LinkExtension → List LinkExt
tag_slots offset extensions = tag_parts offset extensions ++ replicate (3 - length extensions) no_tag

-- ---- the network layer

-- the kind of a network layer: 4 and 6 for the versions of IP, 1 for ARP, 0 for none
abbrev pub net_kind : Option NetLayer → ℕ
net_kind None = 0
net_kind (Some (ipv4 header extensions payload)) = 4
net_kind (Some (ipv6 header extensions payload)) = 6
net_kind (Some (arp packet)) = 1

-- the fields of IP for a packet that is not IP
abbrev pub no_ip : Ip
no_ip = record {
  version = 0;
  number = 0;
  fragmented = 0;
  more_fragments = 0;
  fragment_offset = 0;
  identification = 0;
  header_len = 0;
}

-- the fields of an IPv4 header and its payload
abbrev pub ipv4_part : Ipv4Header → IpPayload → Ip
ipv4_part header payload = record {
  version = 4;
  number = payload.number;
  fragmented = bit payload.fragmented;
  more_fragments = bit header.more_fragments;
  fragment_offset = 8 * header.fragment_offset;
  identification = header.identification;
  header_len = ipv4_header_len header;
}

-- the fields of IPv6, with those of its first fragment header, if any
abbrev pub ipv6_part : Option Ipv6FragmentHeader → IpPayload → Ip
ipv6_part None payload = record {
  version = 6;
  number = payload.number;
  fragmented = bit payload.fragmented;
  more_fragments = 0;
  fragment_offset = 0;
  identification = 0;
  header_len = 40;
}
ipv6_part (Some header) payload = record {
  version = 6;
  number = payload.number;
  fragmented = bit payload.fragmented;
  more_fragments = bit header.more_fragments;
  fragment_offset = 8 * header.fragment_offset;
  identification = header.identification;
  header_len = 40;
}

-- the fields of IP in a network layer
abbrev pub ip_in : Option NetLayer → Ip
ip_in None = no_ip
ip_in (Some (ipv4 header extensions payload)) = ipv4_part header payload
ip_in (Some (ipv6 header extensions payload)) = ipv6_part (first_fragment extensions) payload
ip_in (Some (arp packet)) = no_ip

-- ---- the transport layer

-- the kind of a transport header: its IP number, or 0 for none
abbrev pub header_kind : TransportHeader → ℕ
header_kind (transport.Udp header) = 17
header_kind (transport.Tcp header) = 6
header_kind (transport.Icmpv4 header) = 1
header_kind (transport.Icmpv6 header) = 58

abbrev pub transport_kind : Option TransportLayer → ℕ
transport_kind None = 0
transport_kind (Some layer) = header_kind layer.header

-- the source port, or 0 for a transport header without ports
abbrev pub header_source_port : TransportHeader → ℕ
header_source_port (transport.Udp header) = header.source_port
header_source_port (transport.Tcp header) = header.source_port
header_source_port (transport.Icmpv4 header) = 0
header_source_port (transport.Icmpv6 header) = 0

abbrev pub source_port_in : Option TransportLayer → ℕ
source_port_in None = 0
source_port_in (Some layer) = header_source_port layer.header

-- the destination port, or 0 for a transport header without ports
abbrev pub header_destination_port : TransportHeader → ℕ
header_destination_port (transport.Udp header) = header.destination_port
header_destination_port (transport.Tcp header) = header.destination_port
header_destination_port (transport.Icmpv4 header) = 0
header_destination_port (transport.Icmpv6 header) = 0

abbrev pub destination_port_in : Option TransportLayer → ℕ
destination_port_in None = 0
destination_port_in (Some layer) = header_destination_port layer.header

-- ---- the payload

-- the length field of a network layer that limits its payload
abbrev pub net_end : Option NetLayer → LenSource
net_end None = source.Slice
net_end (Some (ipv4 header extensions payload)) = payload.source
net_end (Some (ipv6 header extensions payload)) = payload.source
net_end (Some (arp packet)) = source.ArpAddrLengths

-- the length field of a transport header that limits its payload: the length of UDP, unless it is 0
abbrev pub header_end : TransportHeader → LenSource
header_end (transport.Udp header) = if header.length == 0 then source.Slice else source.UdpHeaderLen
header_end (transport.Tcp header) = source.Slice
header_end (transport.Icmpv4 header) = source.Slice
header_end (transport.Icmpv6 header) = source.Slice

abbrev pub transport_end : Option TransportLayer → LenSource
transport_end None = source.Slice
transport_end (Some layer) = header_end layer.header

-- the limit of the last layer's payload: the innermost length field in effect, or else the input
abbrev pub payload_end : Layers → LenSource
payload_end layers =
    limited_by (limited_by (extensions_len_source layers.link_exts) (net_end layers.net)) (transport_end layers.transport)

-- the number of a length source
abbrev pub source_number : LenSource → ℕ
source_number source.Slice = 0
source_number source.MacsecShortLength = 1
source_number source.Ipv4HeaderTotalLen = 2
source_number source.Ipv6HeaderPayloadLen = 3
source_number source.UdpHeaderLen = 4
source_number source.ArpAddrLengths = 5

-- ---- the whole packet

-- the offset of the network layer in the frame
abbrev pub net_offset : Layers → ℕ
net_offset layers = link_len layers.link + tags_len layers.link_exts

-- the offset of the transport layer in the frame
abbrev pub transport_offset : Layers → ℕ
transport_offset layers = net_offset layers + net_len layers.net

-- the numbers for no error
abbrev pub no_refusal : Refusal
no_refusal = record {
  kind = 0;
  layer = 0;
  len_source = 0;
  number = 0;
  required_len = 0;
  len = 0;
  layer_start_offset = 0;
}

-- the payload of the last layer, which is complete in a frame
abbrev pub payload_part : Layers → Payload
payload_part layers = record {
  len_source = source_number (payload_end layers);
  incomplete = 0;
  offset = payload_offset layers;
  len = length (last_payload layers);
}

-- the description with these headers, up to the network layer, and a transport header that starts where the network
-- layer ends; payload and error are unchanged
abbrev pub with_headers : Part → List LinkExt → ℕ → Part → Ip → Option TransportLayer → Packet → Packet
with_headers link link_exts count net ip transport described = record described {
  link = link;
  link_exts = link_exts;
  link_ext_count = count;
  source_port = source_port_in transport;
  destination_port = destination_port_in transport;
  net = net;
  ip = ip;
  transport = part (transport_kind transport) (net.offset + net.len) (transport_len transport);
}

-- the description of a frame with these layers
abbrev pub description : Layers → Packet
description layers = record {
  link = link_part layers.link;
  link_exts = tag_slots (link_len layers.link) layers.link_exts;
  link_ext_count = length layers.link_exts;
  source_port = source_port_in layers.transport;
  destination_port = destination_port_in layers.transport;
  net = part (net_kind layers.net) (net_offset layers) (net_len layers.net);
  ip = ip_in layers.net;
  transport = part (transport_kind layers.transport) (transport_offset layers) (transport_len layers.transport);
  payload = payload_part layers;
  refusal = no_refusal;
}
