-- Names of variants and constants as text.
use Rattle.std.specs.Prelude.{ℕ, ◌==◌, if◌then◌else◌, List, Option, Some, None, codes}
use Rattle.ep_base.specs.EtherTypes.{ipv4_type, arp_type, ipv6_type, vlan_type, provider_bridging_type, double_vlan_type}
use Rattle.ep_base.specs.EtherTypes.{macsec_type}
use Rattle.ep_base.specs.IpNumbers.{hop_by_hop_number, icmpv4_number, tcp_number, udp_number, routing_number}
use Rattle.ep_base.specs.IpNumbers.{fragment_number, authentication_number, icmpv6_number, destination_options_number}
use Rattle.ep_base.specs.declared.len_source.LenSource.{LenSource}
use Rattle.ep_base.specs.declared.len_source.LenSource.TheVariants as source
use Rattle.ep_base.specs.declared.err.layer.Layer.{Layer}
use Rattle.ep_base.specs.declared.err.layer.Layer.TheVariants as layer
use Rattle.ep_base.specs.declared.err.value_type.ValueType.{ValueType}
use Rattle.ep_base.specs.declared.err.value_type.ValueType.TheVariants as value

-- the name of a length source
abbrev pub len_source_name : LenSource → List ℕ
len_source_name source.Slice = codes "Slice"
len_source_name source.MacsecShortLength = codes "MacsecShortLength"
len_source_name source.Ipv4HeaderTotalLen = codes "Ipv4HeaderTotalLen"
len_source_name source.Ipv6HeaderPayloadLen = codes "Ipv6HeaderPayloadLen"
len_source_name source.UdpHeaderLen = codes "UdpHeaderLen"
len_source_name source.ArpAddrLengths = codes "ArpAddrLengths"

-- the name of a layer
abbrev pub layer_name : Layer → List ℕ
layer_name layer.Ethernet2Header = codes "Ethernet2Header"
layer_name layer.LinuxSllHeader = codes "LinuxSllHeader"
layer_name layer.VlanHeader = codes "VlanHeader"
layer_name layer.MacsecHeader = codes "MacsecHeader"
layer_name layer.MacsecPacket = codes "MacsecPacket"
layer_name layer.Arp = codes "Arp"
layer_name layer.IpHeader = codes "IpHeader"
layer_name layer.Ipv4Header = codes "Ipv4Header"
layer_name layer.Ipv4Packet = codes "Ipv4Packet"
layer_name layer.IpAuthHeader = codes "IpAuthHeader"
layer_name layer.Ipv6Header = codes "Ipv6Header"
layer_name layer.Ipv6Packet = codes "Ipv6Packet"
layer_name layer.Ipv6ExtHeader = codes "Ipv6ExtHeader"
layer_name layer.Ipv6FragHeader = codes "Ipv6FragHeader"
layer_name layer.UdpHeader = codes "UdpHeader"
layer_name layer.UdpPayload = codes "UdpPayload"
layer_name layer.TcpHeader = codes "TcpHeader"
layer_name layer.Icmpv4 = codes "Icmpv4"
layer_name layer.Icmpv4Timestamp = codes "Icmpv4Timestamp"
layer_name layer.Icmpv4TimestampReply = codes "Icmpv4TimestampReply"
layer_name layer.Icmpv6 = codes "Icmpv6"

-- the name of the kind of field that a number was meant for
abbrev pub value_type_name : ValueType → List ℕ
value_type_name value.VlanId = codes "VlanId"
value_type_name value.VlanPcp = codes "VlanPcp"
value_type_name value.IpFragmentOffset = codes "IpFragmentOffset"
value_type_name value.Ipv4Dscp = codes "Ipv4Dscp"
value_type_name value.Ipv4Ecn = codes "Ipv4Ecn"
value_type_name value.Ipv6FlowLabel = codes "Ipv6FlowLabel"
value_type_name value.MacsecShortLen = codes "MacsecShortLen"
value_type_name value.MacsecAn = codes "MacsecAn"
value_type_name value.Ipv4PayloadLength = codes "Ipv4PayloadLength"
value_type_name value.Ipv6PayloadLength = codes "Ipv6PayloadLength"
value_type_name value.UdpPayloadLengthIpv4 = codes "UdpPayloadLengthIpv4"
value_type_name value.UdpPayloadLengthIpv6 = codes "UdpPayloadLengthIpv6"
value_type_name value.TcpPayloadLengthIpv4 = codes "TcpPayloadLengthIpv4"
value_type_name value.TcpPayloadLengthIpv6 = codes "TcpPayloadLengthIpv6"
value_type_name value.Icmpv6PayloadLength = codes "Icmpv6PayloadLength"

-- the name of the constant of an ether type, or None if there is no constant
abbrev pub ether_type_name : ℕ → Option (List ℕ)
ether_type_name type =
    if type == ipv4_type then Some (codes "IPV4") else
    (if type == arp_type then Some (codes "ARP") else
    (if type == ipv6_type then Some (codes "IPV6") else
    (if type == vlan_type then Some (codes "VLAN_TAGGED_FRAME") else
    (if type == provider_bridging_type then Some (codes "PROVIDER_BRIDGING") else
    (if type == double_vlan_type then Some (codes "VLAN_DOUBLE_TAGGED_FRAME") else
    (if type == macsec_type then Some (codes "MACSEC") else None))))))

-- the name of the constant of an IP protocol number, or None if there is no constant
abbrev pub ip_number_name : ℕ → Option (List ℕ)
ip_number_name number =
    if number == hop_by_hop_number then Some (codes "IPV6_HEADER_HOP_BY_HOP") else
    (if number == icmpv4_number then Some (codes "ICMP") else
    (if number == tcp_number then Some (codes "TCP") else
    (if number == udp_number then Some (codes "UDP") else
    (if number == routing_number then Some (codes "IPV6_ROUTE_HEADER") else
    (if number == fragment_number then Some (codes "IPV6_FRAGMENTATION_HEADER") else
    (if number == authentication_number then Some (codes "AUTHENTICATION_HEADER") else
    (if number == icmpv6_number then Some (codes "IPV6_ICMP") else
    (if number == destination_options_number then Some (codes "IPV6_DESTINATION_OPTIONS") else None))))))))
