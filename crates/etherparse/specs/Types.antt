-- The types of the library, each under its own name, with its variants in TheVariants. The first group has numbers,
-- lengths and errors that the layers share; the name of an error of this group that is in a module of `err` starts with
-- the name of that module.
pub use Rattle.ep_base.specs.declared.at_least.AtLeast
pub use Rattle.ep_base.specs.declared.err.ip.HeaderError as IpHeaderError
pub use Rattle.ep_base.specs.declared.err.ip.HeadersError as IpHeadersError
pub use Rattle.ep_base.specs.declared.err.ip.HeadersSliceError as IpHeadersSliceError
pub use Rattle.ep_base.specs.declared.err.ip.LaxHeaderSliceError as IpLaxHeaderSliceError
pub use Rattle.ep_base.specs.declared.err.ip.SliceError as IpSliceError
pub use Rattle.ep_base.specs.declared.err.ip_auth.HeaderError as IpAuthHeaderError
pub use Rattle.ep_base.specs.declared.err.ip_auth.HeaderSliceError as IpAuthHeaderSliceError
pub use Rattle.ep_base.specs.declared.err.ip_exts.ExtsWalkError as IpExtsExtsWalkError
pub use Rattle.ep_base.specs.declared.err.ip_exts.HeaderError as IpExtsHeaderError
pub use Rattle.ep_base.specs.declared.err.ip_exts.HeadersSliceError as IpExtsHeadersSliceError
pub use Rattle.ep_base.specs.declared.err.ipv4.HeaderError as Ipv4HeaderError
pub use Rattle.ep_base.specs.declared.err.ipv4.HeaderSliceError as Ipv4HeaderSliceError
pub use Rattle.ep_base.specs.declared.err.ipv4.SliceError as Ipv4SliceError
pub use Rattle.ep_base.specs.declared.err.ipv4_exts.ExtsWalkError as Ipv4ExtsExtsWalkError
pub use Rattle.ep_base.specs.declared.err.ipv4_exts.HeaderWriteError as Ipv4ExtsHeaderWriteError
pub use Rattle.ep_base.specs.declared.err.ipv6.HeaderError as Ipv6HeaderError
pub use Rattle.ep_base.specs.declared.err.ipv6.HeaderSliceError as Ipv6HeaderSliceError
pub use Rattle.ep_base.specs.declared.err.ipv6.SliceError as Ipv6SliceError
pub use Rattle.ep_base.specs.declared.err.ipv6_exts.ExtsWalkError as Ipv6ExtsExtsWalkError
pub use Rattle.ep_base.specs.declared.err.ipv6_exts.HeaderError as Ipv6ExtsHeaderError
pub use Rattle.ep_base.specs.declared.err.ipv6_exts.HeaderSliceError as Ipv6ExtsHeaderSliceError
pub use Rattle.ep_base.specs.declared.err.ipv6_exts.HeaderWriteError as Ipv6ExtsHeaderWriteError
pub use Rattle.ep_base.specs.declared.err.layer.Layer
pub use Rattle.ep_base.specs.declared.err.len_error.LenError
pub use Rattle.ep_base.specs.declared.err.linux_sll.HeaderError as LinuxSllHeaderError
pub use Rattle.ep_base.specs.declared.err.linux_sll.HeaderSliceError as LinuxSllHeaderSliceError
pub use Rattle.ep_base.specs.declared.err.macsec.HeaderError as MacsecHeaderError
pub use Rattle.ep_base.specs.declared.err.macsec.HeaderSliceError as MacsecHeaderSliceError
pub use Rattle.ep_base.specs.declared.err.tcp.HeaderError as TcpHeaderError
pub use Rattle.ep_base.specs.declared.err.tcp.HeaderSliceError as TcpHeaderSliceError
pub use Rattle.ep_base.specs.declared.err.value_too_big.ValueTooBigError
pub use Rattle.ep_base.specs.declared.err.value_type.ValueType
pub use Rattle.ep_base.specs.declared.ether_payload_slice.EtherPayloadSlice
pub use Rattle.ep_base.specs.declared.ether_type.EtherType
pub use Rattle.ep_base.specs.declared.ip_number.IpNumber
pub use Rattle.ep_base.specs.declared.ip_payload_slice.IpPayloadSlice
pub use Rattle.ep_base.specs.declared.len_source.LenSource
-- link layers, link extensions and ARP
pub use Rattle.ep_link.specs.declared.arp.arp_hardware_id.ArpHardwareId
pub use Rattle.ep_link.specs.declared.arp.arp_operation.ArpOperation
pub use Rattle.ep_link.specs.declared.arp.arp_packet.ArpPacket
pub use Rattle.ep_link.specs.declared.arp.arp_packet_slice.ArpPacketSlice
pub use Rattle.ep_link.specs.declared.err.arp.arp_hw_addr_error.ArpHwAddrError
pub use Rattle.ep_link.specs.declared.err.arp.arp_new_error.ArpNewError
pub use Rattle.ep_link.specs.declared.err.arp.arp_proto_addr_error.ArpProtoAddrError
pub use Rattle.ep_link.specs.declared.link.ethernet2_header.Ethernet2Header
pub use Rattle.ep_link.specs.declared.link.ethernet2_slice.Ethernet2Slice
pub use Rattle.ep_link.specs.declared.link.link_header.LinkHeader
pub use Rattle.ep_link.specs.declared.link.link_slice.LinkSlice
pub use Rattle.ep_link.specs.declared.link.linux_sll_header.LinuxSllHeader
pub use Rattle.ep_link.specs.declared.link.linux_sll_packet_type.LinuxSllPacketType
pub use Rattle.ep_link.specs.declared.link.linux_sll_payload_slice.LinuxSllPayloadSlice
pub use Rattle.ep_link.specs.declared.link.linux_sll_protocol_type.LinuxSllProtocolType
pub use Rattle.ep_link.specs.declared.link.linux_sll_slice.LinuxSllSlice
pub use Rattle.ep_link.specs.declared.link_ext.double_vlan_header.DoubleVlanHeader
pub use Rattle.ep_link.specs.declared.link_ext.double_vlan_slice.DoubleVlanSlice
pub use Rattle.ep_link.specs.declared.link_ext.link_ext_header.LinkExtHeader
pub use Rattle.ep_link.specs.declared.link_ext.link_ext_slice.LinkExtSlice
pub use Rattle.ep_link.specs.declared.link_ext.macsec_header.MacsecHeader
pub use Rattle.ep_link.specs.declared.link_ext.macsec_header_slice.MacsecHeaderSlice
pub use Rattle.ep_link.specs.declared.link_ext.macsec_payload_slice.MacsecPayloadSlice
pub use Rattle.ep_link.specs.declared.link_ext.macsec_ptype.MacsecPType
pub use Rattle.ep_link.specs.declared.link_ext.macsec_slice.MacsecSlice
pub use Rattle.ep_link.specs.declared.link_ext.single_vlan_header.SingleVlanHeader
pub use Rattle.ep_link.specs.declared.link_ext.single_vlan_slice.SingleVlanSlice
pub use Rattle.ep_link.specs.declared.link_ext.vlan_header.VlanHeader
pub use Rattle.ep_link.specs.declared.link_ext.vlan_slice.VlanSlice
-- extension headers of IP
pub use Rattle.ep_ext.specs.declared.err.ip_auth.icv_len_error.IcvLenError
pub use Rattle.ep_ext.specs.declared.err.ipv6_exts.ext_payload_len_error.ExtPayloadLenError
pub use Rattle.ep_ext.specs.declared.ip_auth_header.IpAuthHeader
pub use Rattle.ep_ext.specs.declared.ip_auth_header_slice.IpAuthHeaderSlice
pub use Rattle.ep_ext.specs.declared.ipv4_exts.Ipv4Extensions
pub use Rattle.ep_ext.specs.declared.ipv4_exts_slice.Ipv4ExtensionsSlice
pub use Rattle.ep_ext.specs.declared.ipv6_ext_slice.Ipv6ExtensionSlice
pub use Rattle.ep_ext.specs.declared.ipv6_exts.Ipv6Extensions
pub use Rattle.ep_ext.specs.declared.ipv6_exts_slice.Ipv6ExtensionsSlice
pub use Rattle.ep_ext.specs.declared.ipv6_exts_slice_iter.Ipv6ExtensionSliceIter
pub use Rattle.ep_ext.specs.declared.ipv6_fragment_header.Ipv6FragmentHeader
pub use Rattle.ep_ext.specs.declared.ipv6_fragment_header_slice.Ipv6FragmentHeaderSlice
pub use Rattle.ep_ext.specs.declared.ipv6_raw_ext_header.Ipv6RawExtHeader
pub use Rattle.ep_ext.specs.declared.ipv6_raw_ext_header_slice.Ipv6RawExtHeaderSlice
pub use Rattle.ep_ext.specs.declared.ipv6_routing_exts.Ipv6RoutingExtensions
-- IP
pub use Rattle.ep_ip.specs.declared.ip_slice.IpSlice
pub use Rattle.ep_ip.specs.declared.ipv4_header.Ipv4Header
pub use Rattle.ep_ip.specs.declared.ipv4_header_slice.Ipv4HeaderSlice
pub use Rattle.ep_ip.specs.declared.ipv4_options.BadOptionsLen
pub use Rattle.ep_ip.specs.declared.ipv4_slice.Ipv4Slice
pub use Rattle.ep_ip.specs.declared.ipv6_header.Ipv6Header
pub use Rattle.ep_ip.specs.declared.ipv6_header_slice.Ipv6HeaderSlice
pub use Rattle.ep_ip.specs.declared.ipv6_slice.Ipv6Slice
-- transport layers
pub use Rattle.ep_transport.specs.declared.icmp_echo_header.IcmpEchoHeader
pub use Rattle.ep_transport.specs.declared.icmpv4.time_exceeded_code.TimeExceededCode as Icmpv4TimeExceededCode
pub use Rattle.ep_transport.specs.declared.icmpv4.timestamp_message.TimestampMessage
pub use Rattle.ep_transport.specs.declared.icmpv4_header.Icmpv4Header
pub use Rattle.ep_transport.specs.declared.icmpv4_slice.Icmpv4Slice
pub use Rattle.ep_transport.specs.declared.icmpv4_type.Icmpv4Type
pub use Rattle.ep_transport.specs.declared.icmpv6.time_exceeded_code.TimeExceededCode as Icmpv6TimeExceededCode
pub use Rattle.ep_transport.specs.declared.icmpv6_header.Icmpv6Header
pub use Rattle.ep_transport.specs.declared.icmpv6_slice.Icmpv6Slice
pub use Rattle.ep_transport.specs.declared.icmpv6_type.Icmpv6Type
pub use Rattle.ep_transport.specs.declared.tcp_header.TcpHeader
pub use Rattle.ep_transport.specs.declared.tcp_option_element.TcpOptionElement
pub use Rattle.ep_transport.specs.declared.tcp_option_element.TcpOptionReadError
pub use Rattle.ep_transport.specs.declared.tcp_options.TcpOptionWriteError
pub use Rattle.ep_transport.specs.declared.tcp_options_iterator.TcpOptionsIterator
pub use Rattle.ep_transport.specs.declared.tcp_slice.TcpSlice
pub use Rattle.ep_transport.specs.declared.transport_checksum_error.TransportChecksumError
pub use Rattle.ep_transport.specs.declared.transport_header.TransportHeader
pub use Rattle.ep_transport.specs.declared.transport_slice.TransportSlice
pub use Rattle.ep_transport.specs.declared.udp_header.UdpHeader
pub use Rattle.ep_transport.specs.declared.udp_slice.UdpSlice
-- whole packets
pub use Rattle.ep_packet.specs.declared.checksum_verdict.ChecksumVerdict
pub use Rattle.ep_packet.specs.declared.checksum_verdict.ChecksumVerdicts
pub use Rattle.ep_packet.specs.declared.entry.Entry
pub use Rattle.ep_packet.specs.declared.err.headers_write_error.HeadersWriteError
pub use Rattle.ep_packet.specs.declared.err.net_set_next_header_error.NetSetNextHeaderError
pub use Rattle.ep_packet.specs.declared.err.slice_error.SliceError
pub use Rattle.ep_packet.specs.declared.ip_headers.IpHeaders
pub use Rattle.ep_packet.specs.declared.net_headers.NetHeaders
pub use Rattle.ep_packet.specs.declared.net_slice.NetSlice
pub use Rattle.ep_packet.specs.declared.packet_headers.PacketHeaders
pub use Rattle.ep_packet.specs.declared.payload_slice.PayloadSlice
pub use Rattle.ep_packet.specs.declared.sliced_packet.SlicedPacket
-- lax parsing of truncated packets
pub use Rattle.ep_lax.specs.declared.lax_ether_payload_slice.LaxEtherPayloadSlice
pub use Rattle.ep_base.specs.declared.lax_ip_payload_slice.LaxIpPayloadSlice
pub use Rattle.ep_lax.specs.declared.lax_ipv4_slice.LaxIpv4Slice
pub use Rattle.ep_lax.specs.declared.lax_ipv6_slice.LaxIpv6Slice
pub use Rattle.ep_lax.specs.declared.lax_link_ext_slice.LaxLinkExtSlice
pub use Rattle.ep_lax.specs.declared.lax_macsec_payload_slice.LaxMacsecPayloadSlice
pub use Rattle.ep_lax.specs.declared.lax_macsec_slice.LaxMacsecSlice
pub use Rattle.ep_lax.specs.declared.lax_net_slice.LaxNetSlice
pub use Rattle.ep_lax.specs.declared.lax_packet_headers.LaxPacketHeaders
pub use Rattle.ep_lax.specs.declared.lax_payload_slice.LaxPayloadSlice
pub use Rattle.ep_lax.specs.declared.lax_sliced_packet.LaxSlicedPacket
-- building
pub use Rattle.ep_build.specs.declared.err.build_slice_write_error.BuildSliceWriteError
pub use Rattle.ep_build.specs.declared.err.build_write_error.BuildWriteError
pub use Rattle.ep_build.specs.declared.link_part.LinkPart
pub use Rattle.ep_build.specs.declared.packet_builder.PacketBuilderStep
-- reassembly of fragments
pub use Rattle.ep_defrag.specs.declared.bounded_defrag_error.BoundedDefragError
pub use Rattle.ep_defrag.specs.declared.bounded_defrag_pool.BoundedDefragPool
pub use Rattle.ep_defrag.specs.declared.bounded_limits.DefragLimits
pub use Rattle.ep_defrag.specs.declared.bounded_limits.OverlapPolicy
pub use Rattle.ep_defrag.specs.declared.defrag_statistics.DefragStatistics
pub use Rattle.ep_defrag.specs.declared.evicted_stream.EvictedStream
pub use Rattle.ep_defrag.specs.declared.evicted_stream.EvictionCause
pub use Rattle.ep_defrag.specs.declared.frame_run.FrameAnswer
pub use Rattle.ep_defrag.specs.declared.frame_run.FrameCall
pub use Rattle.ep_defrag.specs.declared.ip_defrag_buf.IpDefragBuf
pub use Rattle.ep_defrag.specs.declared.ip_defrag_error.IpDefragError
pub use Rattle.ep_defrag.specs.declared.ip_defrag_payload_vec.IpDefragPayloadVec
pub use Rattle.ep_defrag.specs.declared.ip_defrag_pool.IpDefragPool
pub use Rattle.ep_defrag.specs.declared.ip_frag_id.IpFragId
pub use Rattle.ep_defrag.specs.declared.ip_frag_id.IpFragVersionSpecId
pub use Rattle.ep_defrag.specs.declared.ip_frag_range.IpFragRange
pub use Rattle.ep_defrag.specs.declared.pool_run.PoolAnswer
pub use Rattle.ep_defrag.specs.declared.pool_run.PoolCall
pub use Rattle.ep_defrag.specs.declared.run.RunStop
