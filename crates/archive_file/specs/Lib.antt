pub mod Members
pub mod Proof
pub mod Writer
