pub mod Calls
pub mod Contract
