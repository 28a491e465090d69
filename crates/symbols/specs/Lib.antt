pub mod Outcome
pub mod Calls
pub mod New
pub mod Add
pub mod Lookup
pub mod Remove
pub mod Contract
pub mod Proof
