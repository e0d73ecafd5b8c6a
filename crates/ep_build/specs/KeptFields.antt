-- Reading a built frame gives the fields that were given to the builder, except for those that are filled in, each with
-- its value.
use Rattle.std.specs.Prelude.{◌≡◌, ◌⊎◌, ℕ, ◌+◌, true, false, List, [], ◌∷◌, ◌++◌, length, map, Option, Some, None}
use Rattle.std.specs.Option.{option_and_then, option_map_or}
use Rattle.ep_base.specs.Checksum.{checksum_of}
use Rattle.ep_base.specs.EtherTypes.{arp_type, ipv4_type, ipv6_type, provider_bridging_type, vlan_type}
use Rattle.ep_base.specs.IpNumbers.{icmpv4_number, icmpv6_number, tcp_number, udp_number}
use Rattle.ep_base.specs.Readings.{Reading}
use Rattle.ep_ext.specs.Chains.{parts_bytes}
use Rattle.ep_ext.specs.ExtensionParts.{ExtensionPart, authentication, destination_options, fragment, hop_by_hop}
use Rattle.ep_ext.specs.ExtensionParts.{part_next, part_number, routing}
use Rattle.ep_ext.specs.FragmentHeader.{fragment_header_bytes_with}
use Rattle.ep_ext.specs.IpAuth.{ip_auth_bytes_with, ip_auth_icv}
use Rattle.ep_ext.specs.Ipv4Chains.{ipv4_parts}
use Rattle.ep_ext.specs.Ipv6Chains.{ipv6_parts}
use Rattle.ep_ext.specs.RawExtension.{raw_extension_bytes, raw_extension_payload}
use Rattle.ep_ip.specs.Ipv4.{ipv4_bytes_with, ipv4_checksum, ipv4_header_len}
use Rattle.ep_ip.specs.Ipv6.{ipv6_bytes}
use Rattle.ep_ip.specs.declared.ipv4_header.Ipv4Header.{Ipv4Header}
use Rattle.ep_ip.specs.declared.ipv6_header.Ipv6Header.{Ipv6Header}
use Rattle.ep_link.specs.Arp.{arp_bytes}
use Rattle.ep_link.specs.LinkExtensions.{LinkExtension, extension_header, link_ext_bytes, vlan}
use Rattle.ep_link.specs.LinkSlices.{LinkLayer, ethernet2, link_bytes, link_header_of, linux_sll}
use Rattle.ep_link.specs.LinuxSll.{ethernet_hardware}
use Rattle.ep_link.specs.declared.link.ethernet2_header.Ethernet2Header.{Ethernet2Header}
use Rattle.ep_link.specs.declared.link.linux_sll_header.LinuxSllHeader.{LinuxSllHeader}
use Rattle.ep_link.specs.declared.link.linux_sll_protocol_type.LinuxSllProtocolType.TheVariants as protocol
use Rattle.ep_link.specs.declared.link_ext.single_vlan_header.SingleVlanHeader.{SingleVlanHeader}
use Rattle.ep_link.specs.declared.link_ext.vlan_header.VlanHeader.TheVariants as tags
use Rattle.ep_packet.specs.Frame.{IsFrameIn}
use Rattle.ep_packet.specs.Layers.{Layers, NetLayer, ipv4, ipv6, arp}
use Rattle.ep_packet.specs.declared.entry.Entry.{Entry}
use Rattle.ep_packet.specs.declared.ip_headers.IpHeaders.{IpHeaders}
use Rattle.ep_packet.specs.declared.ip_headers.IpHeaders.TheVariants as version
use Rattle.ep_transport.specs.Icmpv4.{EndsIcmpv4, FitsIcmpv4, icmpv4_bytes_with, icmpv4_message}
use Rattle.ep_transport.specs.Icmpv6.{FitsIcmpv6, icmpv6_bytes_with, icmpv6_checksum}
use Rattle.ep_transport.specs.PseudoHeaders.{tcp_checksum_ipv4, tcp_checksum_ipv6, udp_checksum_ipv4}
use Rattle.ep_transport.specs.PseudoHeaders.{udp_checksum_ipv6}
use Rattle.ep_transport.specs.Tcp.{tcp_bytes_with}
use Rattle.ep_transport.specs.TransportParts.{TransportLayer}
use Rattle.ep_transport.specs.Udp.{udp_bytes}
use Rattle.ep_transport.specs.declared.icmpv4_header.Icmpv4Header.{Icmpv4Header}
use Rattle.ep_transport.specs.declared.icmpv6_header.Icmpv6Header.{Icmpv6Header}
use Rattle.ep_transport.specs.declared.tcp_header.TcpHeader.{TcpHeader}
use Rattle.ep_transport.specs.declared.transport_header.TransportHeader.{TransportHeader}
use Rattle.ep_transport.specs.declared.transport_header.TransportHeader.TheVariants as transport
use Rattle.ep_transport.specs.declared.udp_header.UdpHeader.{UdpHeader}
use Rattle.ep_build.specs.BuiltFrames.{FrameHeaders, Inside, ip_packet, transport_packet, arp_packet, built_frame}
use Rattle.ep_build.specs.declared.link_part.LinkPart.{LinkPart}
use Rattle.ep_build.specs.declared.link_part.LinkPart.TheVariants as link

-- ---- link header and VLAN tags

-- An Ethernet II header (IEEE 802.3, 3.2.3 to 3.2.6): both addresses as given; the ether type is filled in.
pub record KeepsEthernet2 (given : Ethernet2Header) (type : ℕ) (read : Ethernet2Header) : Type 0 where
  pub source : read.source ≡ given.source
  pub destination : read.destination ≡ given.destination
  pub ether_type : read.ether_type.0 ≡ type

-- A VLAN tag (IEEE 802.1Q, 9.6): priority, drop eligible indicator and identifier as given; the ether type is filled
-- in.
pub record KeepsTag (given : SingleVlanHeader) (type : ℕ) (read : SingleVlanHeader) : Type 0 where
  pub pcp : read.pcp ≡ given.pcp
  pub drop_eligible_indicator : read.drop_eligible_indicator ≡ given.drop_eligible_indicator
  pub vlan_id : read.vlan_id ≡ given.vlan_id
  pub ether_type : read.ether_type.0 ≡ type

-- A Linux cooked capture header (SLL v1): packet type, sender address and its length as given; the hardware type
-- (Ethernet) and the protocol, an ether type, are filled in.
pub record KeepsCooked (given : LinuxSllHeader) (type : ℕ) (read : LinuxSllHeader) : Type 0 where
  pub packet_type : read.packet_type.0 ≡ given.packet_type.0
  pub sender_address_valid_length : read.sender_address_valid_length ≡ given.sender_address_valid_length
  pub sender_address : read.sender_address ≡ given.sender_address
  pub hardware : read.arp_hrd_type.0 ≡ ethernet_hardware
  pub protocol : read.protocol_type ≡ protocol.EtherType (record { 0 = type })

-- The link layer and the link extensions are the link part that was given, before a network layer of this ether type.
-- The ether type before one tag is that of a customer tag; before two that of a service tag, and between them that of a
-- customer tag (IEEE 802.1Q, 9.5).
abbrev pub KeepsLink : LinkPart → ℕ → Option LinkLayer → List LinkExtension → Type 0
KeepsLink link.Absent type found extensions = (option_and_then link_header_of found ≡ None) × (extensions ≡ [])
KeepsLink (link.Ethernet2 given) type (Some (ethernet2 read payload)) [] = KeepsEthernet2 given type read
KeepsLink (link.Tagged given (tags.Single tag)) type (Some (ethernet2 read payload)) (vlan only inner ∷ []) =
    KeepsEthernet2 given vlan_type read × KeepsTag tag type only
KeepsLink (link.Tagged given (tags.Double both)) type (Some (ethernet2 read payload))
    (vlan first rest ∷ vlan second inner ∷ []) =
    KeepsEthernet2 given provider_bridging_type read × KeepsTag both.outer vlan_type first
    × KeepsTag both.inner type second
KeepsLink (link.LinuxSll given) type (Some (linux_sll read payload)) [] = KeepsCooked given type read
KeepsLink part type found extensions = ⊥

-- ---- extension headers

-- An extension header of the given kind: each field as given, except for the next header (RFC 8200, 4.3 to 4.6; RFC
-- 4302, 2).
abbrev pub KeepsPart : ExtensionPart → ExtensionPart → Type 0
KeepsPart (hop_by_hop given) (hop_by_hop read) = raw_extension_payload read ≡ raw_extension_payload given
KeepsPart (destination_options given) (destination_options read) =
    raw_extension_payload read ≡ raw_extension_payload given
KeepsPart (routing given) (routing read) = raw_extension_payload read ≡ raw_extension_payload given
KeepsPart (fragment given) (fragment read) =
    (read.fragment_offset ≡ given.fragment_offset) × (read.more_fragments ≡ given.more_fragments)
    × (read.identification ≡ given.identification)
KeepsPart (authentication given) (authentication read) =
    (read.spi ≡ given.spi) × (read.sequence_number ≡ given.sequence_number) × (ip_auth_icv read ≡ ip_auth_icv given)
KeepsPart given read = ⊥

-- The next header value before extension headers: the number of the first one, or `last` if there is none.
abbrev pub number_of_first : List ExtensionPart → ℕ → ℕ
number_of_first [] last = last
number_of_first (part ∷ parts) last = part_number part

-- The extension headers that were given, in this order. Their next headers are filled in: each is the number of the
-- header after it, and that of the last one is the number of the payload (RFC 8200, 4; RFC 4302, 2.1).
abbrev pub KeepParts : List ExtensionPart → ℕ → List ExtensionPart → Type 0
KeepParts [] last [] = Unit {0}
KeepParts (given ∷ others) last (read ∷ more) =
    KeepsPart given read × (part_next read ≡ number_of_first others last) × KeepParts others last more
KeepParts given last read = ⊥

-- The numbers of IPv6 extension headers in their order (RFC 8200, 4.1): Hop-by-Hop Options, Destination Options,
-- Routing, Fragment, Authentication, and Destination Options for the final destination.
abbrev pub ipv6_order : List ℕ
ipv6_order = 0 ∷ 60 ∷ 43 ∷ 44 ∷ 51 ∷ 60 ∷ []

-- The numbers are elements of the second list, in its order; elements may be absent.
abbrev pub AreInOrder : List ℕ → List ℕ → Type 0
AreInOrder [] order = Unit {0}
AreInOrder (number ∷ numbers) [] = ⊥
AreInOrder (number ∷ numbers) (first ∷ order) =
    ((number ≡ first) × AreInOrder numbers order) ⊎ AreInOrder (number ∷ numbers) order

-- ---- IP headers

-- An IPv4 header (RFC 791, 3.1): each field and the options as given. Filled in are the total length, of the header and
-- `len` bytes, the protocol `number`, and the header checksum, which is that of the header read.
pub record KeepsIpv4 (given : Ipv4Header) (number len : ℕ) (read : Ipv4Header) : Type 0 where
  pub dscp : read.dscp ≡ given.dscp
  pub ecn : read.ecn ≡ given.ecn
  pub total_len : read.total_len ≡ ipv4_header_len given + len
  pub identification : read.identification ≡ given.identification
  pub dont_fragment : read.dont_fragment ≡ given.dont_fragment
  pub more_fragments : read.more_fragments ≡ given.more_fragments
  pub fragment_offset : read.fragment_offset ≡ given.fragment_offset
  pub time_to_live : read.time_to_live ≡ given.time_to_live
  pub protocol : read.protocol.0 ≡ number
  pub header_checksum : read.header_checksum ≡ ipv4_checksum read
  pub source : read.source ≡ given.source
  pub destination : read.destination ≡ given.destination
  pub options : read.options ≡ given.options

-- An IPv6 header (RFC 8200, 3): each field as given. Filled in are the payload length `len` and the next
-- header `number`.
pub record KeepsIpv6 (given : Ipv6Header) (number len : ℕ) (read : Ipv6Header) : Type 0 where
  pub traffic_class : read.traffic_class ≡ given.traffic_class
  pub flow_label : read.flow_label ≡ given.flow_label
  pub payload_length : read.payload_length ≡ len
  pub next_header : read.next_header.0 ≡ number
  pub hop_limit : read.hop_limit ≡ given.hop_limit
  pub source : read.source ≡ given.source
  pub destination : read.destination ≡ given.destination

-- The network layer is the IP header and the extension headers that were given, those of IPv6 in the order of RFC 8200,
-- 4.1, before a payload of this protocol number and these bytes.
abbrev pub KeepsIp : IpHeaders → ℕ → List ℕ → Option NetLayer → Type 0
KeepsIp (version.Ipv4 given extensions) number bytes (Some (ipv4 read parts payload)) =
    KeepsIpv4 given (number_of_first (ipv4_parts extensions) number) (length bytes + length (parts_bytes parts)) read
    × KeepParts (ipv4_parts extensions) number parts × (payload.number ≡ number) × (payload.bytes ≡ bytes)
KeepsIp (version.Ipv6 given extensions) number bytes (Some (ipv6 read parts payload)) =
    KeepsIpv6 given (number_of_first (ipv6_parts extensions) number) (length bytes + length (parts_bytes parts)) read
    × KeepParts (ipv6_parts extensions) number parts × AreInOrder (map part_number parts) ipv6_order
    × (payload.number ≡ number) × (payload.bytes ≡ bytes)
KeepsIp given number bytes found = ⊥

-- ---- transport headers

-- A UDP header (RFC 768): both ports as given; length and checksum are filled in.
pub record KeepsUdp (given : UdpHeader) (len sum : ℕ) (read : UdpHeader) : Type 0 where
  pub source_port : read.source_port ≡ given.source_port
  pub destination_port : read.destination_port ≡ given.destination_port
  pub length : read.length ≡ len
  pub checksum : read.checksum ≡ sum

-- A TCP header (RFC 9293, 3.1; CWR and ECE: RFC 3168; NS: RFC 3540): each field, each flag and the options as given;
-- the checksum is filled in.
pub record KeepsTcp (given : TcpHeader) (sum : ℕ) (read : TcpHeader) : Type 0 where
  pub source_port : read.source_port ≡ given.source_port
  pub destination_port : read.destination_port ≡ given.destination_port
  pub sequence_number : read.sequence_number ≡ given.sequence_number
  pub acknowledgment_number : read.acknowledgment_number ≡ given.acknowledgment_number
  pub ns : read.ns ≡ given.ns
  pub fin : read.fin ≡ given.fin
  pub syn : read.syn ≡ given.syn
  pub rst : read.rst ≡ given.rst
  pub psh : read.psh ≡ given.psh
  pub ack : read.ack ≡ given.ack
  pub urg : read.urg ≡ given.urg
  pub ece : read.ece ≡ given.ece
  pub cwr : read.cwr ≡ given.cwr
  pub window_size : read.window_size ≡ given.window_size
  pub checksum : read.checksum ≡ sum
  pub urgent_pointer : read.urgent_pointer ≡ given.urgent_pointer
  pub options : read.options ≡ given.options

-- An ICMPv4 message (RFC 792): the bytes of the given header, with the checksum of the message and unused bytes 0, and
-- of the payload. A header that reading can return is read as it was given, with its payload.
pub record KeepsIcmpv4 (given : Icmpv4Header) (payload message : List ℕ) (read : Icmpv4Header) (rest : List ℕ)
    : Type 0 where
  pub checksum : read.checksum ≡ checksum_of (icmpv4_message given payload)
  pub bytes : message ≡ icmpv4_bytes_with (0 ∷ 0 ∷ 0 ∷ 0 ∷ []) (record given { checksum = read.checksum }) ++ payload
  pub fields : FitsIcmpv4 given → EndsIcmpv4 given.icmp_type payload
      → (read.icmp_type ≡ given.icmp_type) × (rest ≡ payload)

-- An ICMPv6 message between these addresses (RFC 4443, 2.1 and 2.3), as an ICMPv4 message.
pub record KeepsIcmpv6 (source destination : List ℕ) (given : Icmpv6Header) (payload message : List ℕ)
    (read : Icmpv6Header) (rest : List ℕ) : Type 0 where
  pub checksum : read.checksum ≡ icmpv6_checksum source destination given payload
  pub bytes : message ≡ icmpv6_bytes_with (0 ∷ 0 ∷ 0 ∷ 0 ∷ []) (record given { checksum = read.checksum }) ++ payload
  pub fields : FitsIcmpv6 given → (read.icmp_type ≡ given.icmp_type) × (rest ≡ payload)

-- The checksum of UDP between the addresses of IP headers (RFC 768; RFC 8200, 8.1).
abbrev pub udp_checksum_between : IpHeaders → UdpHeader → List ℕ → ℕ
udp_checksum_between (version.Ipv4 ip extensions) = udp_checksum_ipv4 ip.source ip.destination
udp_checksum_between (version.Ipv6 ip extensions) = udp_checksum_ipv6 ip.source ip.destination

-- The checksum of TCP between the addresses of IP headers (RFC 9293, 3.1; RFC 8200, 8.1).
abbrev pub tcp_checksum_between : IpHeaders → TcpHeader → List ℕ → ℕ
tcp_checksum_between (version.Ipv4 ip extensions) = tcp_checksum_ipv4 ip.source ip.destination
tcp_checksum_between (version.Ipv6 ip extensions) = tcp_checksum_ipv6 ip.source ip.destination

-- The header `read` and the bytes `rest` are the transport header and the payload that were given, in an IP payload of
-- this protocol number and these bytes: the header's, with reserved bits 0, and then the payload's. Checksums are those
-- of what is read, between the addresses of the IP headers. There is no ICMPv6 after IPv4.
abbrev pub KeepsTransport : IpHeaders → TransportHeader → List ℕ → ℕ → List ℕ → TransportHeader → List ℕ → Type 0
KeepsTransport headers (transport.Udp given) payload number message (transport.Udp read) rest =
    KeepsUdp given (8 + length payload) (udp_checksum_between headers read payload) read
    × (number ≡ udp_number) × (rest ≡ payload) × (message ≡ udp_bytes read ++ payload)
KeepsTransport headers (transport.Tcp given) payload number message (transport.Tcp read) rest =
    KeepsTcp given (tcp_checksum_between headers read payload) read
    × (number ≡ tcp_number) × (rest ≡ payload) × (message ≡ tcp_bytes_with 0 read ++ payload)
KeepsTransport headers (transport.Icmpv4 given) payload number message (transport.Icmpv4 read) rest =
    KeepsIcmpv4 given payload message read rest × (number ≡ icmpv4_number)
KeepsTransport (version.Ipv6 ip extensions) (transport.Icmpv6 given) payload number message (transport.Icmpv6 read)
    rest =
    KeepsIcmpv6 ip.source ip.destination given payload message read rest × (number ≡ icmpv6_number)
KeepsTransport headers given payload number message read rest = ⊥

-- The transport layer (RFC 768; RFC 792; RFC 4443; RFC 9293), if there is one, is the header and the payload that were
-- given.
abbrev pub KeepsUpper : IpHeaders → TransportHeader → List ℕ → ℕ → List ℕ → Option TransportLayer → Type 0
KeepsUpper headers given payload number message None = ⊥
KeepsUpper headers given payload number message (Some layer) =
    KeepsTransport headers given payload number message layer.header layer.payload

-- ---- bytes

-- The bytes of the link header that is read, if any.
abbrev pub read_link_bytes : Option LinkLayer → List ℕ
read_link_bytes found = option_map_or link_bytes (option_and_then link_header_of found) []

-- The bytes of the tags that are read, from the outside in.
abbrev pub read_tags_bytes : List LinkExtension → List ℕ
read_tags_bytes [] = []
read_tags_bytes (extension ∷ others) = link_ext_bytes (extension_header extension) ++ read_tags_bytes others

-- The bytes of an extension header that is read. The reserved bits of a fragment header (RFC 8200, 4.5) and of an
-- authentication header (RFC 4302, 2.3) are 0.
abbrev pub read_part_bytes : ExtensionPart → List ℕ
read_part_bytes (hop_by_hop header) = raw_extension_bytes header
read_part_bytes (destination_options header) = raw_extension_bytes header
read_part_bytes (routing header) = raw_extension_bytes header
read_part_bytes (fragment header) = fragment_header_bytes_with 0 0 header
read_part_bytes (authentication header) = ip_auth_bytes_with 0 header

-- The bytes of the extension headers that are read, one after another.
abbrev pub read_parts_bytes : List ExtensionPart → List ℕ
read_parts_bytes [] = []
read_parts_bytes (part ∷ parts) = read_part_bytes part ++ read_parts_bytes parts

-- The bytes of the network layer that is read: of an ARP packet (RFC 826), or of an IP header with its reserved flag 0
-- (RFC 791, 3.1), the extension headers and the payload.
abbrev pub read_net_bytes : Option NetLayer → List ℕ
read_net_bytes None = []
read_net_bytes (Some (ipv4 header parts payload)) =
    ipv4_bytes_with 0 header ++ (read_parts_bytes parts ++ payload.bytes)
read_net_bytes (Some (ipv6 header parts payload)) = ipv6_bytes header ++ (read_parts_bytes parts ++ payload.bytes)
read_net_bytes (Some (arp packet)) = arp_bytes packet

-- The bytes of the layers that are read, with reserved bits 0, and nothing after them.
abbrev pub read_bytes : Layers → List ℕ
read_bytes layers = read_link_bytes layers.link ++ (read_tags_bytes layers.link_exts ++ read_net_bytes layers.net)

-- ---- frames

-- The ether type of the network layer that was given.
abbrev pub given_type : Inside → ℕ
given_type (ip_packet (version.Ipv4 header extensions) last) = ipv4_type
given_type (ip_packet (version.Ipv6 header extensions) last) = ipv6_type
given_type (transport_packet (version.Ipv4 header extensions) upper) = ipv4_type
given_type (transport_packet (version.Ipv6 header extensions) upper) = ipv6_type
given_type (arp_packet packet) = arp_type

-- Network layer and transport layer are the headers and the payload that were given: an ARP packet (RFC 826); IP
-- headers (RFC 791; RFC 8200) and a payload; or IP headers, whose payload is a message, and the message's transport
-- header and payload.
abbrev pub KeepsInside : Inside → List ℕ → Option NetLayer → Option TransportLayer → Type 0
KeepsInside (arp_packet packet) payload net upper = (net ≡ Some (arp packet)) × (upper ≡ None)
KeepsInside (ip_packet headers last) payload net upper = KeepsIp headers last.0 payload net × (upper ≡ None)
KeepsInside (transport_packet headers given) payload net upper =
    (number : ℕ) × (message : List ℕ) × KeepsIp headers number message net
    × KeepsUpper headers given payload number message upper

-- The frame that is built from the given headers and payload is a frame in this reading, by this entry of its first
-- layer, and what is read from it is what was given. The frame has no other bytes, such as padding.
pub record ReadsAll (reading : Reading) (entry : Entry) (given : FrameHeaders) (payload : List ℕ) : Type 0 where
  pub layers : Layers
  pub is : IsFrameIn reading entry (built_frame given payload) layers
  pub bytes : built_frame given payload ≡ read_bytes layers
  pub link : KeepsLink given.link (given_type given.inside) layers.link layers.link_exts
  pub inside : KeepsInside given.inside payload layers.net layers.transport

-- ---- headers that are given by some of their fields

-- An IPv4 header with these addresses and this time to live, with "don't fragment" set, no options and no extension
-- header; its other fields are 0, or filled in.
abbrev pub GivesIpv4 : List ℕ → List ℕ → ℕ → IpHeaders → Type 0
GivesIpv4 source destination time_to_live (version.Ipv4 header extensions) =
    (header.source ≡ source) × (header.destination ≡ destination) × (header.time_to_live ≡ time_to_live)
    × (header.dont_fragment ≡ true) × (header.more_fragments ≡ false) × (header.fragment_offset ≡ 0)
    × (header.identification ≡ 0) × (header.dscp ≡ 0) × (header.ecn ≡ 0) × (header.options ≡ [])
    × (extensions.auth ≡ None)
GivesIpv4 source destination time_to_live (version.Ipv6 header extensions) = ⊥

-- An IPv6 header with these addresses and this hop limit, and no extension headers; its other fields are 0, or filled
-- in.
abbrev pub GivesIpv6 : List ℕ → List ℕ → ℕ → IpHeaders → Type 0
GivesIpv6 source destination hop_limit (version.Ipv4 header extensions) = ⊥
GivesIpv6 source destination hop_limit (version.Ipv6 header extensions) =
    (header.source ≡ source) × (header.destination ≡ destination) × (header.hop_limit ≡ hop_limit)
    × (header.traffic_class ≡ 0) × (header.flow_label ≡ 0) × (ipv6_parts extensions ≡ [])

-- A VLAN tag with this identifier, whose priority and drop eligible indicator are 0.
abbrev pub GivesTag : ℕ → SingleVlanHeader → Type 0
GivesTag identifier tag =
    (tag.vlan_id ≡ identifier) × (tag.pcp ≡ 0) × (tag.drop_eligible_indicator ≡ false)
