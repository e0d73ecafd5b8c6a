pub mod PoolCalls
pub mod Words
