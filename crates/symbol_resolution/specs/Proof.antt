pub mod DecideWays
pub mod Outcomes
