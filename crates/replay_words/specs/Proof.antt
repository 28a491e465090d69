pub mod Ways
pub mod OrderWays
