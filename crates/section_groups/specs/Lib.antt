pub mod Group
pub mod Filter
pub mod Contract
pub mod Proof
pub mod AddGroup
pub mod AloneContract
