pub mod Replies
pub mod Exits
