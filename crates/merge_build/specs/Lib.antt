pub mod Relocations
pub mod Build
pub mod Proof
pub mod Finish
