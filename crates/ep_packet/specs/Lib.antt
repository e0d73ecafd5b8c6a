pub mod Layers
pub mod Frame
pub mod FrameFragments
pub mod FrameRefusals
pub mod LayerErrors
pub mod NetSlices
pub mod FrameBytes
pub mod Offsets
pub mod Payloads
pub mod UncutTags
pub mod FrameCuts
pub mod VlanTags
pub mod ShownBytes
pub mod Walk
pub mod LinkParts
pub mod IpHeaders
pub mod LaxIpHeaders
pub mod LaxIpContents
pub mod NetHeaders
pub mod PayloadParts
pub mod PacketHeaders
pub mod HeadersWalk
pub mod TwoParsers
pub mod PacketComparisons
pub mod Verdicts
pub mod FrameVerdicts
pub mod PayloadStarts
-- Definitions of the crates below that contracts use
pub use Rattle.ep_base.specs.Bytes
pub use Rattle.ep_base.specs.IpPayload
pub use Rattle.ep_base.specs.Readings
pub use Rattle.ep_base.specs.Missing
pub use Rattle.ep_base.specs.Tables
pub use Rattle.ep_link.specs.EtherPayloads
pub use Rattle.ep_link.specs.LinkExtensions
pub use Rattle.ep_link.specs.LinkSlices
pub use Rattle.ep_ext.specs.Chains
pub use Rattle.ep_ext.specs.ExtensionParts
pub use Rattle.ep_ext.specs.Ipv4Chains
pub use Rattle.ep_ext.specs.Ipv6Chains
pub use Rattle.ep_ip.specs.IpPackets
pub use Rattle.ep_ip.specs.Ipv4Slices
pub use Rattle.ep_ip.specs.Ipv6
pub use Rattle.ep_transport.specs.TransportParts
pub use Rattle.ep_base.specs.declared.err.ip.HeaderError as IpHeaderErrorType
pub use Rattle.ep_base.specs.declared.err.ip.HeadersError as IpHeadersErrorType
pub use Rattle.ep_base.specs.declared.err.ip.HeadersSliceError as IpHeadersSliceErrorType
pub use Rattle.ep_base.specs.declared.err.ip_exts.ExtsWalkError as IpExtsWalkErrorType
pub use Rattle.ep_base.specs.declared.err.layer.Layer as LayerType
pub use Rattle.ep_base.specs.declared.ip_number.IpNumber as IpNumberType
pub use Rattle.ep_base.specs.declared.len_source.LenSource as LenSourceType
pub use Rattle.ep_ip.specs.declared.ipv4_header.Ipv4Header as Ipv4HeaderType
pub use Rattle.ep_ip.specs.declared.ipv6_header.Ipv6Header as Ipv6HeaderType
