-- The frame built from headers and a payload: the headers from the outside in, each with the types, numbers, lengths
-- and checksums of the bytes after it, and then the payload.
use Rattle.std.specs.Prelude.{ℕ, ◌+◌, List, [], ◌++◌, length}
use Rattle.ep_base.specs.EtherTypes.{arp_type, provider_bridging_type, vlan_type}
use Rattle.ep_base.specs.IpNumbers.{icmpv4_number, icmpv6_number, tcp_number, udp_number}
use Rattle.ep_base.specs.declared.ether_type.EtherType.{EtherType}
use Rattle.ep_base.specs.declared.ip_number.IpNumber.{IpNumber}
use Rattle.ep_link.specs.Arp.{Arp, arp_bytes, arp_len}
use Rattle.ep_link.specs.Ethernet2.{ethernet2_bytes, ethernet2_header_len}
use Rattle.ep_link.specs.LinuxSll.{ethernet_hardware, linux_sll_bytes, linux_sll_header_len}
use Rattle.ep_link.specs.Vlan.{vlan_tags_bytes}
use Rattle.ep_link.specs.declared.link.linux_sll_protocol_type.LinuxSllProtocolType.TheVariants as protocol
use Rattle.ep_link.specs.declared.link_ext.single_vlan_header.SingleVlanHeader.{SingleVlanHeader}
use Rattle.ep_link.specs.declared.link_ext.vlan_header.VlanHeader.{VlanHeader}
use Rattle.ep_link.specs.declared.link_ext.vlan_header.VlanHeader.TheVariants as tags
use Rattle.ep_packet.specs.IpHeaders.{headers_for, ip_headers_len, ip_headers_parts, ip_headers_type}
use Rattle.ep_packet.specs.IpHeaders.{written_headers}
use Rattle.ep_packet.specs.declared.ip_headers.IpHeaders.{IpHeaders}
use Rattle.ep_packet.specs.declared.ip_headers.IpHeaders.TheVariants as version
use Rattle.ep_transport.specs.TransportHeaders.{transport_bytes, transport_header_len, with_checksum_ipv4}
use Rattle.ep_transport.specs.TransportHeaders.{with_checksum_ipv6}
use Rattle.ep_transport.specs.declared.transport_header.TransportHeader.{TransportHeader}
use Rattle.ep_transport.specs.declared.transport_header.TransportHeader.TheVariants as transport
use Rattle.ep_build.specs.declared.link_part.LinkPart.{LinkPart}
use Rattle.ep_build.specs.declared.link_part.LinkPart.TheVariants as link

-- ---- headers of a frame, as plain data

-- The headers after the link part: IP headers with the protocol number of the payload or with a transport header, or an
-- ARP packet.
pub data Inside : Type 0 where
  ip_packet : IpHeaders → IpNumber → Inside
  transport_packet : IpHeaders → TransportHeader → Inside
  arp_packet : Arp → Inside

-- The headers of a frame: link header and VLAN tags, if any, and the headers after them.
pub record FrameHeaders : Type 0 where
  pub link : LinkPart
  pub inside : Inside

-- IP headers after a link part, with the protocol number of the payload.
abbrev pub ip_frame_headers : LinkPart → IpHeaders → IpNumber → FrameHeaders
ip_frame_headers part headers last = record { link = part; inside = ip_packet headers last }

-- An IP packet with a transport header after a link part.
abbrev pub transport_frame_headers : LinkPart → IpHeaders → TransportHeader → FrameHeaders
transport_frame_headers part headers upper = record { link = part; inside = transport_packet headers upper }

-- An ARP packet after a link part.
abbrev pub arp_frame_headers : LinkPart → Arp → FrameHeaders
arp_frame_headers part packet = record { link = part; inside = arp_packet packet }

-- ---- link part

-- A number as an ether type.
abbrev pub as_ether_type : ℕ → EtherType
as_ether_type number = record { 0 = number }

-- The ether type before VLAN tags: that of a customer tag before one, that of a service tag before two (IEEE 802.1Q,
-- 9.5).
abbrev pub tags_type : VlanHeader → ℕ
tags_type (tags.Single tag) = vlan_type
tags_type (tags.Double both) = provider_bridging_type

-- A VLAN tag before a payload of this ether type.
abbrev pub tag_with_type : SingleVlanHeader → EtherType → SingleVlanHeader
tag_with_type tag type = record tag { ether_type = type }

-- VLAN tags before a payload of this ether type. The outer one of two has the ether type of the inner one, a customer
-- tag.
abbrev pub tags_with_type : VlanHeader → EtherType → VlanHeader
tags_with_type (tags.Single tag) type = tags.Single (tag_with_type tag type)
tags_with_type (tags.Double both) type = tags.Double (record {
  outer = tag_with_type both.outer (as_ether_type vlan_type);
  inner = tag_with_type both.inner type;
})

-- The link part before a payload of this ether type, which is in its last header. A cooked capture is one of Ethernet.
abbrev pub link_with_type : LinkPart → EtherType → LinkPart
link_with_type link.Absent type = link.Absent
link_with_type (link.Ethernet2 header) type = link.Ethernet2 (record header { ether_type = type })
link_with_type (link.Tagged header both) type =
    link.Tagged (record header { ether_type = as_ether_type (tags_type both) }) (tags_with_type both type)
link_with_type (link.LinuxSll header) type = link.LinuxSll (record header {
  arp_hrd_type = record { 0 = ethernet_hardware };
  protocol_type = protocol.EtherType type;
})

-- Bytes of a link part.
abbrev pub link_part_bytes : LinkPart → List ℕ
link_part_bytes link.Absent = []
link_part_bytes (link.Ethernet2 header) = ethernet2_bytes header
link_part_bytes (link.Tagged header both) = ethernet2_bytes header ++ vlan_tags_bytes both
link_part_bytes (link.LinuxSll header) = linux_sll_bytes header

-- Length of VLAN tags in bytes.
abbrev pub tags_len : VlanHeader → ℕ
tags_len (tags.Single tag) = 4
tags_len (tags.Double both) = 8

-- Length of a link part in bytes.
abbrev pub link_part_len : LinkPart → ℕ
link_part_len link.Absent = 0
link_part_len (link.Ethernet2 header) = ethernet2_header_len
link_part_len (link.Tagged header both) = ethernet2_header_len + tags_len both
link_part_len (link.LinuxSll header) = linux_sll_header_len

-- ---- transport header

-- Protocol number of a transport header.
abbrev pub transport_number : TransportHeader → ℕ
transport_number (transport.Udp header) = udp_number
transport_number (transport.Tcp header) = tcp_number
transport_number (transport.Icmpv4 header) = icmpv4_number
transport_number (transport.Icmpv6 header) = icmpv6_number

-- A transport header before a payload of `len` bytes, which the UDP length field counts after its own 8 bytes.
abbrev pub with_length : ℕ → TransportHeader → TransportHeader
with_length len (transport.Udp header) = transport.Udp (record header { length = 8 + len })
with_length len (transport.Tcp header) = transport.Tcp header
with_length len (transport.Icmpv4 header) = transport.Icmpv4 header
with_length len (transport.Icmpv6 header) = transport.Icmpv6 header

-- A transport header with its checksum between the addresses of IP headers and this payload.
abbrev pub with_checksum_after : IpHeaders → List ℕ → TransportHeader → TransportHeader
with_checksum_after (version.Ipv4 header extensions) payload upper = with_checksum_ipv4 header payload upper
with_checksum_after (version.Ipv6 header extensions) payload upper = with_checksum_ipv6 header payload upper

-- A transport header as it is written between IP headers and this payload.
abbrev pub transport_between : IpHeaders → List ℕ → TransportHeader → TransportHeader
transport_between headers payload upper = with_checksum_after headers payload (with_length (length payload) upper)

-- ---- frame

-- IP headers linked to this protocol number, with the length of this content, and then the content.
abbrev pub ip_frame : IpHeaders → IpNumber → List ℕ → List ℕ
ip_frame headers last content =
    let written = headers_for headers last (length content) in
    written_headers written (ip_headers_parts written) ++ content

-- The ether type of the headers after the link part.
abbrev pub inside_type : Inside → ℕ
inside_type (ip_packet headers last) = ip_headers_type headers
inside_type (transport_packet headers upper) = ip_headers_type headers
inside_type (arp_packet packet) = arp_type

-- Bytes of the headers after the link part, and of the payload.
abbrev pub inside_frame : Inside → List ℕ → List ℕ
inside_frame (ip_packet headers last) payload = ip_frame headers last payload
inside_frame (transport_packet headers upper) payload = ip_frame
    headers
    (record { 0 = transport_number upper })
    (transport_bytes (transport_between headers payload upper) ++ payload)
inside_frame (arp_packet packet) payload = arp_bytes packet ++ payload

-- The frame of headers and a payload.
abbrev pub built_frame : FrameHeaders → List ℕ → List ℕ
built_frame frame payload =
    link_part_bytes (link_with_type frame.link (as_ether_type (inside_type frame.inside)))
    ++ inside_frame frame.inside payload

-- Length in bytes of the headers after the link part and `len` bytes of payload.
abbrev pub inside_size : Inside → ℕ → ℕ
inside_size (ip_packet headers last) len = ip_headers_len headers + len
inside_size (transport_packet headers upper) len = ip_headers_len headers + (transport_header_len upper + len)
inside_size (arp_packet packet) len = arp_len packet + len

-- Length in bytes of the frame of headers and `len` bytes of payload.
abbrev pub built_size : FrameHeaders → ℕ → ℕ
built_size frame len = link_part_len frame.link + inside_size frame.inside len
