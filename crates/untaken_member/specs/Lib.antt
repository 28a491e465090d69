pub mod Untaken
pub mod Contract
pub mod Proof
