pub mod Ethernet2
pub mod Ethernet2Slices
pub mod LinuxSll
pub mod LinuxSllSlices
pub mod Vlan
pub mod VlanSlices
pub mod Macsec
pub mod MacsecSlices
pub mod Arp
pub mod ArpSlices
pub mod EtherPayloads
pub mod LinkSlices
pub mod LinkExtensions
-- definitions of the crates below that contracts of this crate name
pub use Rattle.ep_base.specs.Bytes
pub use Rattle.ep_base.specs.NumberComparisons
pub use Rattle.ep_base.specs.Readings
pub use Rattle.ep_base.specs.Missing
pub use Rattle.ep_base.specs.Padding
pub use Rattle.ep_base.specs.Tables
pub use Rattle.ep_base.specs.declared.err.layer.Layer as LayerType
pub use Rattle.ep_base.specs.declared.err.macsec.HeaderSliceError as MacsecHeaderSliceErrorType
pub use Rattle.ep_base.specs.declared.ether_type.EtherType as EtherTypeType
pub use Rattle.ep_base.specs.declared.len_source.LenSource as LenSourceType
