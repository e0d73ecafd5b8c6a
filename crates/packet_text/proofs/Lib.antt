pub mod AddressLemmas
pub mod LayerLemmas
pub mod LineLemmas
pub mod LinkLemmas
pub mod RowLemmas
pub mod TcpLemmas
