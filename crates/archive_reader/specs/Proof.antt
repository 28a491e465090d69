pub mod OneOutcome
pub mod Ways
