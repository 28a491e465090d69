pub mod Ways
pub mod PassesWays
