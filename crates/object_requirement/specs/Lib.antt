pub mod Matches
pub mod Required
pub mod Contract
pub mod Proof
