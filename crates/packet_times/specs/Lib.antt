pub mod Instants
pub mod Calendar
pub mod TimeTexts
