pub mod Ways
pub mod NewWays
