pub mod Merge
pub mod Proof
