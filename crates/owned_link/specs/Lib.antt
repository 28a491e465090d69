pub mod Owned
pub mod Proof
