-- Fields of the headers of a packet for C, by the values of the headers.
use Rattle.std.specs.Prelude.{ℕ, ◌+◌, ◌-◌, ◌*◌, ◌/◌, ◌%◌, ◌^◌, ◌==◌, ◌&&◌, ◌||◌, nat_le, Bool, if◌then◌else◌, List, []}
use Rattle.std.specs.Prelude.{◌∷◌, ◌++◌, length, replicate, slice_range, Option, Some, None}
use Rattle.etherparse.specs.Arp.{Arp}
use Rattle.etherparse.specs.Bytes.{bit, word_at}
use Rattle.etherparse.specs.FrameBytes.{last_payload}
use Rattle.etherparse.specs.Icmpv4.{icmpv4_code_u8, icmpv4_type_u8}
use Rattle.etherparse.specs.Icmpv6.{icmpv6_code_u8, icmpv6_type_u8}
use Rattle.etherparse.specs.Layers.{Layers, NetLayer, ipv4, ipv6, arp}
use Rattle.etherparse.specs.LinkExtensions.{LinkExtension, vlan, macsec}
use Rattle.etherparse.specs.LinkSlices.{LinkLayer, ethernet2, linux_sll, ether_payload, linux_sll_payload}
use Rattle.etherparse.specs.LinuxSll.{protocol_number}
use Rattle.etherparse.specs.Macsec.{changed_text_bit, encryption_bit, ptype_type, sci_bit}
use Rattle.etherparse.specs.Tcp.{tcp_data_offset, tcp_flags}
use Rattle.etherparse.specs.TransportParts.{TransportLayer}
use Rattle.etherparse.specs.Types.EtherType.{EtherType}
use Rattle.etherparse.specs.Types.Ethernet2Header.{Ethernet2Header}
use Rattle.etherparse.specs.Types.Icmpv4Header.{Icmpv4Header}
use Rattle.etherparse.specs.Types.Icmpv6Header.{Icmpv6Header}
use Rattle.etherparse.specs.Types.Ipv4Header.{Ipv4Header}
use Rattle.etherparse.specs.Types.Ipv6Header.{Ipv6Header}
use Rattle.etherparse.specs.Types.LinuxSllHeader.{LinuxSllHeader}
use Rattle.etherparse.specs.Types.MacsecHeader.{MacsecHeader}
use Rattle.etherparse.specs.Types.SingleVlanHeader.{SingleVlanHeader}
use Rattle.etherparse.specs.Types.TcpHeader.{TcpHeader}
use Rattle.etherparse.specs.Types.TransportHeader.{TransportHeader}
use Rattle.etherparse.specs.Types.TransportHeader.TheVariants as transport
use Rattle.etherparse.specs.Types.UdpHeader.{UdpHeader}
use Rattle.etherparse_c.specs.declared.fields.ArpFields.{ArpFields}
use Rattle.etherparse_c.specs.declared.fields.Fields.{Fields}
use Rattle.etherparse_c.specs.declared.fields.IpFields.{IpFields}
use Rattle.etherparse_c.specs.declared.fields.LinkFields.{LinkFields}
use Rattle.etherparse_c.specs.declared.fields.Place.{Place}
use Rattle.etherparse_c.specs.declared.fields.TagFields.{TagFields}
use Rattle.etherparse_c.specs.declared.fields.TransportFields.{TransportFields}
use Rattle.etherparse_c.specs.declared.packet.Ip.{Ip}
use Rattle.etherparse_c.specs.Description.{ip_in, net_offset, transport_len, transport_offset}
use Rattle.etherparse_c.specs.Places.{bytes_at}

-- `len` bytes at this offset in the packet
abbrev pub place : ℕ → ℕ → Place
place offset len = record { offset = offset; len = len }

-- ---- link header

-- the fields without a link header
abbrev pub no_link_fields : LinkFields
no_link_fields = record {
  destination = replicate 6 0;
  source = replicate 6 0;
  ether_type = 0;
  packet_type = 0;
  hardware_type = 0;
  address_len = 0;
  address = replicate 8 0;
  protocol = 0;
}

-- the fields of an Ethernet II header
abbrev pub ethernet2_fields : Ethernet2Header → LinkFields
ethernet2_fields header = record no_link_fields {
  destination = header.destination;
  source = header.source;
  ether_type = header.ether_type.0;
}

-- the fields of a Linux cooked capture header
abbrev pub linux_sll_fields : LinuxSllHeader → LinkFields
linux_sll_fields header = record no_link_fields {
  packet_type = header.packet_type.0;
  hardware_type = header.arp_hrd_type.0;
  address_len = header.sender_address_valid_length;
  address = header.sender_address;
  protocol = protocol_number header.protocol_type;
}

-- the fields of the link header of a packet
abbrev pub link_fields_in : Option LinkLayer → LinkFields
link_fields_in None = no_link_fields
link_fields_in (Some (ethernet2 header payload)) = ethernet2_fields header
link_fields_in (Some (linux_sll header payload)) = linux_sll_fields header
link_fields_in (Some (ether_payload type source payload)) = no_link_fields
link_fields_in (Some (linux_sll_payload protocol payload)) = no_link_fields

-- ---- tags

-- the fields without a tag
abbrev pub no_tag_fields : TagFields
no_tag_fields = record {
  kind = 0;
  vlan_id = 0;
  ether_type = 0;
  priority = 0;
  drop_eligible = 0;
  macsec_flags = 0;
  association_number = 0;
  short_len = 0;
  packet_number = 0;
  sci = 0;
}

-- the fields of a VLAN tag
abbrev pub vlan_fields : SingleVlanHeader → TagFields
vlan_fields tag = record no_tag_fields {
  kind = 1;
  vlan_id = tag.vlan_id;
  ether_type = tag.ether_type.0;
  priority = tag.pcp;
  drop_eligible = bit tag.drop_eligible_indicator;
}

-- the number of an ether type, or 0 for none
abbrev pub type_number : Option EtherType → ℕ
type_number None = 0
type_number (Some type) = type.0

-- the secure channel identifier, or 0 for none
abbrev pub sci_number : Option ℕ → ℕ
sci_number None = 0
sci_number (Some sci) = sci

-- the flags of a MACsec tag: end station, SC, single copy broadcast, E and C (IEEE 802.1AE, 9.5)
abbrev pub macsec_flags : MacsecHeader → ℕ
macsec_flags tag =
    2 ^ 6 * bit tag.endstation_id + 2 ^ 5 * sci_bit tag.sci + 2 ^ 4 * bit tag.scb + 2 ^ 3 * encryption_bit tag.ptype
    + 2 ^ 2 * changed_text_bit tag.ptype

-- the fields of a MACsec tag
abbrev pub macsec_fields : MacsecHeader → TagFields
macsec_fields tag = record no_tag_fields {
  kind = 2;
  ether_type = type_number (ptype_type tag.ptype);
  macsec_flags = macsec_flags tag;
  association_number = tag.an;
  short_len = tag.short_len;
  packet_number = tag.packet_nr;
  sci = sci_number tag.sci;
}

-- the fields of the tag of a link extension
abbrev pub tag_fields : LinkExtension → TagFields
tag_fields (vlan tag payload) = vlan_fields tag
tag_fields (macsec tag payload) = macsec_fields tag

-- the fields of this many tag slots: those of the tags, then of empty slots
abbrev pub tag_fields_in : ℕ → List LinkExtension → List TagFields
tag_fields_in slots [] = replicate slots no_tag_fields
tag_fields_in slots (extension ∷ others) = tag_fields extension ∷ tag_fields_in (slots - 1) others

-- ---- IP

-- the fields of a packet that is not IP
abbrev pub no_ip_fields : IpFields
no_ip_fields = record {
  version = 0;
  number = 0;
  next_header = 0;
  hop_limit = 0;
  dscp = 0;
  ecn = 0;
  dont_fragment = 0;
  more_fragments = 0;
  fragment_offset = 0;
  length = 0;
  checksum = 0;
  identification = 0;
  flow_label = 0;
  source = replicate 16 0;
  destination = replicate 16 0;
  options = place 0 0;
}

-- the fields of an IPv4 header at this offset; the number of the payload after the extension headers is that of the
-- description
abbrev pub ipv4_fields : ℕ → Ip → Ipv4Header → IpFields
ipv4_fields offset described header = record {
  version = 4;
  number = described.number;
  next_header = header.protocol.0;
  hop_limit = header.time_to_live;
  dscp = header.dscp;
  ecn = header.ecn;
  dont_fragment = bit header.dont_fragment;
  more_fragments = bit header.more_fragments;
  fragment_offset = 8 * header.fragment_offset;
  length = header.total_len;
  checksum = header.header_checksum;
  identification = header.identification;
  flow_label = 0;
  source = header.source ++ replicate 12 0;
  destination = header.destination ++ replicate 12 0;
  options = place (offset + 20) (length header.options);
}

-- the fields of an IPv6 header; the number of the payload and the fields of the fragment header, which are of extension
-- headers, are those of the description
abbrev pub ipv6_fields : Ip → Ipv6Header → IpFields
ipv6_fields described header = record {
  version = 6;
  number = described.number;
  next_header = header.next_header.0;
  hop_limit = header.hop_limit;
  dscp = header.traffic_class / 4;
  ecn = header.traffic_class % 4;
  dont_fragment = 0;
  more_fragments = described.more_fragments;
  fragment_offset = described.fragment_offset;
  length = header.payload_length;
  checksum = 0;
  identification = described.identification;
  flow_label = header.flow_label;
  source = header.source;
  destination = header.destination;
  options = place 0 0;
}

-- the fields of the IP header of a network layer at this offset
abbrev pub ip_fields_in : ℕ → Option NetLayer → IpFields
ip_fields_in offset None = no_ip_fields
ip_fields_in offset (Some (ipv4 header extensions payload)) =
    ipv4_fields offset (ip_in (Some (ipv4 header extensions payload))) header
ip_fields_in offset (Some (ipv6 header extensions payload)) =
    ipv6_fields (ip_in (Some (ipv6 header extensions payload))) header
ip_fields_in offset (Some (arp packet)) = no_ip_fields

-- ---- ARP

-- the fields of a packet that is not ARP
abbrev pub no_arp_fields : ArpFields
no_arp_fields = record {
  hardware_type = 0;
  protocol_type = 0;
  hardware_len = 0;
  protocol_len = 0;
  operation = 0;
  sender_hardware = place 0 0;
  sender_protocol = place 0 0;
  target_hardware = place 0 0;
  target_protocol = place 0 0;
}

-- the fields of an ARP packet at this offset, whose addresses follow one another after the first 8 bytes
abbrev pub arp_fields : ℕ → Arp → ArpFields
arp_fields offset packet =
    let hardware = length packet.sender_hw_addr in
    let protocol = length packet.sender_protocol_addr in
    record {
      hardware_type = packet.hw_addr_type.0;
      protocol_type = packet.proto_addr_type.0;
      hardware_len = hardware;
      protocol_len = protocol;
      operation = packet.operation.0;
      sender_hardware = place (offset + 8) hardware;
      sender_protocol = place (offset + 8 + hardware) protocol;
      target_hardware = place (offset + 8 + hardware + protocol) hardware;
      target_protocol = place (offset + 8 + 2 * hardware + protocol) protocol;
    }

-- the fields of the ARP packet that is a network layer at this offset
abbrev pub arp_fields_in : ℕ → Option NetLayer → ArpFields
arp_fields_in offset None = no_arp_fields
arp_fields_in offset (Some (ipv4 header extensions payload)) = no_arp_fields
arp_fields_in offset (Some (ipv6 header extensions payload)) = no_arp_fields
arp_fields_in offset (Some (arp packet)) = arp_fields offset packet

-- ---- transport header

-- the fields without a transport header
abbrev pub no_transport_fields : TransportFields
no_transport_fields = record {
  source_port = 0;
  destination_port = 0;
  checksum = 0;
  udp_length = 0;
  sequence_number = 0;
  acknowledgment_number = 0;
  tcp_flags = 0;
  window_size = 0;
  urgent_pointer = 0;
  data_offset = 0;
  icmp_type = 0;
  icmp_code = 0;
  icmp_rest = replicate 4 0;
  options = place 0 0;
}

-- the fields of a UDP header
abbrev pub udp_fields : UdpHeader → TransportFields
udp_fields header = record no_transport_fields {
  source_port = header.source_port;
  destination_port = header.destination_port;
  checksum = header.checksum;
  udp_length = header.length;
}

-- the fields of a TCP header at this offset; the flag NS comes before those of byte 13
abbrev pub tcp_fields : ℕ → TcpHeader → TransportFields
tcp_fields offset header = record no_transport_fields {
  source_port = header.source_port;
  destination_port = header.destination_port;
  checksum = header.checksum;
  sequence_number = header.sequence_number;
  acknowledgment_number = header.acknowledgment_number;
  tcp_flags = 2 ^ 8 * bit header.ns + tcp_flags header;
  window_size = header.window_size;
  urgent_pointer = header.urgent_pointer;
  data_offset = tcp_data_offset header;
  options = place (offset + 20) (length header.options);
}

-- the fields of an ICMP message with this header, which these bytes begin with; bytes 4 to 7 may be unused
abbrev pub icmpv4_fields : List ℕ → Icmpv4Header → TransportFields
icmpv4_fields bytes header = record no_transport_fields {
  checksum = header.checksum;
  icmp_type = icmpv4_type_u8 header.icmp_type;
  icmp_code = icmpv4_code_u8 header.icmp_type;
  icmp_rest = slice_range bytes 4 8;
}

-- the fields of an ICMPv6 message with this header, which these bytes begin with; bytes 4 to 7 may be unused
abbrev pub icmpv6_fields : List ℕ → Icmpv6Header → TransportFields
icmpv6_fields bytes header = record no_transport_fields {
  checksum = header.checksum;
  icmp_type = icmpv6_type_u8 header.icmp_type;
  icmp_code = icmpv6_code_u8 header.icmp_type;
  icmp_rest = slice_range bytes 4 8;
}

-- The payload of an IP packet without a transport header begins with the ports of a truncated one: it is no fragment,
-- is TCP or UDP, and has at least 4 bytes.
abbrev pub begins_with_ports : Ip → List ℕ → Bool
begins_with_ports described payload =
    described.fragmented == 0 && (described.number == 6 || described.number == 17) && nat_le 4 (length payload)

-- the fields of a packet without a transport header: the ports, if the payload begins with them
abbrev pub port_fields : Ip → List ℕ → TransportFields
port_fields described payload =
    if begins_with_ports described payload
    then record no_transport_fields { source_port = word_at payload 0; destination_port = word_at payload 2 }
    else no_transport_fields

-- the fields of a transport header at this offset, whose bytes are these
abbrev pub header_fields : ℕ → List ℕ → TransportHeader → TransportFields
header_fields offset bytes (transport.Udp header) = udp_fields header
header_fields offset bytes (transport.Tcp header) = tcp_fields offset header
header_fields offset bytes (transport.Icmpv4 header) = icmpv4_fields bytes header
header_fields offset bytes (transport.Icmpv6 header) = icmpv6_fields bytes header

-- the fields of the transport layer of a packet: of its header at this offset, whose bytes are these, or else of the
-- payload of this IP packet
abbrev pub transport_fields_in : ℕ → List ℕ → Ip → List ℕ → Option TransportLayer → TransportFields
transport_fields_in offset bytes described payload None = port_fields described payload
transport_fields_in offset bytes described payload (Some layer) = header_fields offset bytes layer.header

-- ---- all headers

-- the fields of a packet without headers
abbrev pub no_fields : Fields
no_fields = record {
  link = no_link_fields;
  tags = replicate 3 no_tag_fields;
  ip = no_ip_fields;
  arp = no_arp_fields;
  transport = no_transport_fields;
  header_checksum = 0;
  transport_checksum = 0;
}

-- the fields of a packet with these bytes and layers
abbrev pub fields_in : List ℕ → Layers → Fields
fields_in bytes layers = record {
  link = link_fields_in layers.link;
  tags = tag_fields_in 3 layers.link_exts;
  ip = ip_fields_in (net_offset layers) layers.net;
  arp = arp_fields_in (net_offset layers) layers.net;
  transport = transport_fields_in (transport_offset layers)
      (bytes_at bytes (transport_offset layers) (transport_len layers.transport)) (ip_in layers.net)
      (last_payload layers) layers.transport;
  header_checksum = 0;
  transport_checksum = 0;
}
