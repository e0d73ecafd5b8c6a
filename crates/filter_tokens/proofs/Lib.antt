pub mod LeadingLemmas
pub mod MaskLemmas
pub mod NumberLemmas
pub mod OnceLemmas
pub mod PrimitiveTextLemmas
pub mod TokenLemmas
pub mod TokenListLemmas
pub mod ValueLemmas
