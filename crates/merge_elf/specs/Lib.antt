pub mod Merge
pub mod Contract
pub mod Proof
