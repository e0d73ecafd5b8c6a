pub mod Ends
pub mod Requests
pub mod Segments
pub mod Reports
pub mod Fragments
