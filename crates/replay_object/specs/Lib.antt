pub mod Told
pub mod Conversion
pub mod Proof
