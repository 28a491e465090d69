pub mod Reserve
pub mod Notes
pub mod Proof
