pub mod Chains
pub mod ExtensionParts
pub mod FragmentHeader
pub mod FragmentHeaderSlices
pub mod ChainPrefixes
pub mod IpAuth
pub mod IpAuthSlices
pub mod Ipv4Chains
pub mod Ipv6Chains
pub mod Ipv6ExtensionSlices
pub mod RawExtension
pub mod RawExtensionSlices
pub mod ShownChains
pub mod Walks
-- Definitions of lower crates that the contracts use.
pub use Rattle.ep_base.specs.Bytes
pub use Rattle.ep_base.specs.IpNumbers
pub use Rattle.ep_base.specs.Readings
pub use Rattle.ep_base.specs.Missing
pub use Rattle.ep_base.specs.Padding
pub use Rattle.ep_base.specs.Tables
pub use Rattle.ep_base.specs.declared.err.ipv4_exts.ExtsWalkError as Ipv4ExtsWalkErrorType
pub use Rattle.ep_base.specs.declared.err.ipv4_exts.HeaderWriteError as Ipv4ExtsHeaderWriteErrorType
pub use Rattle.ep_base.specs.declared.err.ipv6_exts.ExtsWalkError as Ipv6ExtsWalkErrorType
pub use Rattle.ep_base.specs.declared.err.ipv6_exts.HeaderSliceError as Ipv6ExtsHeaderSliceErrorType
pub use Rattle.ep_base.specs.declared.err.ipv6_exts.HeaderWriteError as Ipv6ExtsHeaderWriteErrorType
pub use Rattle.ep_base.specs.declared.err.layer.Layer as LayerType
pub use Rattle.ep_base.specs.declared.ip_number.IpNumber as IpNumberType
