pub mod DecimalLemmas
pub mod LineLemmas
pub mod ResultLemmas
