-- Ranges of the header fields of a frame, as the types of the code guarantee: each field fits its width on the wire.
use Rattle.std.specs.Prelude.{◌≡◌, ◌<◌, ◌^◌, length}
use Rattle.ep_base.specs.Bytes.{AreBytes}
use Rattle.ep_link.specs.Ethernet2.{FitsEthernet2}
use Rattle.ep_link.specs.Vlan.{FitsVlan}
use Rattle.ep_link.specs.declared.link.linux_sll_header.LinuxSllHeader.{LinuxSllHeader}
use Rattle.ep_link.specs.declared.link_ext.vlan_header.VlanHeader.{VlanHeader}
use Rattle.ep_link.specs.declared.link_ext.vlan_header.VlanHeader.TheVariants as tags
use Rattle.ep_transport.specs.Icmpv4.{icmpv4_bytes, icmpv4_kind, icmpv4_len}
use Rattle.ep_transport.specs.Icmpv6.{icmpv6_bytes}
use Rattle.ep_transport.specs.Tcp.{FitsTcp}
use Rattle.ep_transport.specs.Udp.{FitsUdp}
use Rattle.ep_transport.specs.declared.transport_header.TransportHeader.{TransportHeader}
use Rattle.ep_transport.specs.declared.transport_header.TransportHeader.TheVariants as transport
use Rattle.ep_build.specs.declared.link_part.LinkPart.{LinkPart}
use Rattle.ep_build.specs.declared.link_part.LinkPart.TheVariants as link

-- The fields of VLAN tags fit.
abbrev pub FitTags : VlanHeader → Type 0
FitTags (tags.Single tag) = FitsVlan tag
FitTags (tags.Double both) = FitsVlan both.outer × FitsVlan both.inner

-- The fields of a Linux cooked capture header that are not filled in fit, for any packet type.
pub record FitsCooked (header : LinuxSllHeader) : Type 0 where
  pub packet_type : header.packet_type.0 < 2 ^ 16
  pub valid_length : header.sender_address_valid_length < 2 ^ 16
  pub address_length : length header.sender_address ≡ 8
  pub address : AreBytes header.sender_address

-- The fields of a link part fit; of a Linux cooked capture header, those that are not filled in.
abbrev pub FitsLink : LinkPart → Type 0
FitsLink link.Absent = Unit {0}
FitsLink (link.Ethernet2 header) = FitsEthernet2 header
FitsLink (link.Tagged header both) = FitsEthernet2 header × FitTags both
FitsLink (link.LinuxSll header) = FitsCooked header

-- The fields of a transport header fit. An ICMP header has its length, since any bytes of that length can be read.
abbrev pub FitsTransport : TransportHeader → Type 0
FitsTransport (transport.Udp header) = FitsUdp header
FitsTransport (transport.Tcp header) = FitsTcp header
FitsTransport (transport.Icmpv4 header) = length (icmpv4_bytes header) ≡ icmpv4_len (icmpv4_kind header.icmp_type)
FitsTransport (transport.Icmpv6 header) = length (icmpv6_bytes header) ≡ 8
