pub mod Lines
pub mod Transfers
pub mod WatchedWords
