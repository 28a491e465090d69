pub mod Words
pub mod Spelled
pub mod Order
pub mod Proof
pub mod Part
