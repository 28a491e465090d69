pub mod Listed
pub mod AddList
pub mod Contract
pub mod Proof
