pub mod Terms
pub mod Replies
