pub mod Stages
pub mod Proof
