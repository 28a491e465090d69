pub mod Ways
pub mod LoopWays
pub mod CountWays
