pub mod Entry
pub mod Contract
pub mod Proof
