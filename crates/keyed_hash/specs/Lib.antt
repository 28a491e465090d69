pub mod Keyed
pub mod Ways
pub mod Proof
pub mod Polynomial
