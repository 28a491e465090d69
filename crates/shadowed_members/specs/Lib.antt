pub mod Shadowed
pub mod Marks
pub mod Contract
pub mod Proof
