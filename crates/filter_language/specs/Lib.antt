pub mod Trees
pub mod Primitives
pub mod Grammar
pub mod Refusals
pub mod States
pub mod Changes
pub mod Parsing
pub mod Printing
