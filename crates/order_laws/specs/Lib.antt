pub mod Premises
pub mod Order
pub mod Examples
