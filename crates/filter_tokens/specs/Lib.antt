pub mod Networks
pub mod Names
pub mod KindTexts
pub mod Tokens
pub mod ShownTokens
pub mod Values
pub mod PrimitiveTexts
