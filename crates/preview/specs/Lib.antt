pub mod Preview
pub mod Proof
