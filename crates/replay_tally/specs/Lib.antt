pub mod Answer
pub mod Tally
pub mod Proof
