pub mod Icmp
pub mod Icmpv4
pub mod Icmpv4Slices
pub mod Icmpv6
pub mod Icmpv6Slices
pub mod PseudoHeaders
pub mod Tcp
pub mod TcpOptionBytes
pub mod TcpOptionSteps
pub mod TcpSlices
pub mod TransportHeaders
pub mod TransportNumbers
pub mod TransportParts
pub mod Udp
pub mod UdpSlices
-- Definitions of lower crates that the contracts use.
pub use Rattle.ep_base.specs.Bytes
pub use Rattle.ep_base.specs.Checksum
pub use Rattle.ep_base.specs.Readings
pub use Rattle.ep_base.specs.Missing
pub use Rattle.ep_base.specs.Padding
pub use Rattle.ep_base.specs.Tables
pub use Rattle.ep_base.specs.declared.err.len_error.LenError as LenErrorType
pub use Rattle.ep_base.specs.declared.err.tcp.HeaderSliceError as TcpHeaderSliceErrorType
