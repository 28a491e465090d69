pub mod Reached
pub mod Marks
pub mod Found
pub mod Collected
pub mod Examples
pub mod Proof
