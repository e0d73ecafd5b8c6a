pub mod BuiltFrames
pub mod Steps
pub mod BuildErrors
pub mod Fits
pub mod ReadBack
pub mod KeptFields
pub mod BuiltVerdicts
pub mod BuiltFragments
pub mod AppendedFrames
pub mod Placing
-- Definitions of the crates below that contracts use
pub use Rattle.ep_base.specs.Bytes
pub use Rattle.ep_base.specs.Tables
pub use Rattle.ep_link.specs.ArpSlices
pub use Rattle.ep_link.specs.Ethernet2
pub use Rattle.ep_link.specs.LinuxSll
pub use Rattle.ep_link.specs.Vlan
pub use Rattle.ep_ext.specs.Chains
pub use Rattle.ep_ip.specs.Ipv4
pub use Rattle.ep_ip.specs.Ipv6
pub use Rattle.ep_transport.specs.Icmpv4
pub use Rattle.ep_transport.specs.Icmpv6
pub use Rattle.ep_transport.specs.Tcp
pub use Rattle.ep_transport.specs.TcpOptionBytes
pub use Rattle.ep_transport.specs.TransportHeaders
pub use Rattle.ep_transport.specs.Udp
pub use Rattle.ep_packet.specs.IpHeaders
pub use Rattle.ep_base.specs.declared.ip_number.IpNumber as IpNumberType
pub use Rattle.ep_link.specs.declared.link.linux_sll_protocol_type.LinuxSllProtocolType as LinuxSllProtocolTypeType
pub use Rattle.ep_transport.specs.declared.icmpv4_type.Icmpv4Type as Icmpv4TypeType
pub use Rattle.ep_transport.specs.declared.icmpv6_type.Icmpv6Type as Icmpv6TypeType
pub use Rattle.ep_transport.specs.declared.tcp_options.TcpOptionWriteError as TcpOptionWriteErrorType
pub use Rattle.ep_transport.specs.declared.transport_header.TransportHeader as TransportHeaderType
pub use Rattle.ep_packet.specs.declared.ip_headers.IpHeaders as IpHeadersType
