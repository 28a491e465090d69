pub mod AddOutcomes
pub mod NewWays
