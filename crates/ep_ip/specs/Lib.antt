pub mod Ip
pub mod IpBytes
pub mod IpPackets
pub mod IpSlices
pub mod Ipv4
pub mod Ipv4Slices
pub mod Ipv6
pub mod Ipv6Slices
pub mod LaxIp
-- Definitions of lower crates that the contracts use.
pub use Rattle.ep_base.specs.Bytes
pub use Rattle.ep_base.specs.NumberComparisons
pub use Rattle.ep_base.specs.IpPayload
pub use Rattle.ep_base.specs.Readings
pub use Rattle.ep_base.specs.Missing
pub use Rattle.ep_base.specs.Padding
pub use Rattle.ep_base.specs.Tables
pub use Rattle.ep_ext.specs.Ipv4Chains
pub use Rattle.ep_ext.specs.Ipv6ExtensionSlices
pub use Rattle.ep_base.specs.declared.err.ip.HeaderError as IpHeaderErrorType
pub use Rattle.ep_base.specs.declared.err.ip.HeadersError as IpHeadersErrorType
pub use Rattle.ep_base.specs.declared.err.ip.SliceError as IpSliceErrorType
pub use Rattle.ep_base.specs.declared.err.ipv4.SliceError as Ipv4SliceErrorType
pub use Rattle.ep_base.specs.declared.err.ipv6.SliceError as Ipv6SliceErrorType
pub use Rattle.ep_base.specs.declared.err.len_error.LenError as LenErrorType
pub use Rattle.ep_base.specs.declared.err.value_type.ValueType as ValueTypeType
