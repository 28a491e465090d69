pub mod Calls
pub mod Contract
pub mod Proof
