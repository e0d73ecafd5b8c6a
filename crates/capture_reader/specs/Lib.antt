pub mod Numbers
pub mod Classic
pub mod Options
pub mod Blocks
pub mod Captures
pub mod BlockContents
pub mod States
pub mod Readers
