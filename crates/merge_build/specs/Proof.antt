pub mod RelocationWays
pub mod BuildWays
pub mod Ways
