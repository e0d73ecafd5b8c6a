pub mod LruTable
pub mod SlotHashes
pub mod TableLends
