pub mod Calls
pub mod Contract
pub mod LookupCalls
pub mod LookupContract
pub mod Proof
