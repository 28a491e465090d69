pub mod Sums
pub mod Ways
