pub mod Requests
pub mod SliceReplies
pub mod LineCalls
pub mod PoolReplies
pub mod Replies
pub mod Answers
pub mod Advances
pub mod Endings
