pub mod Ways
pub mod AloneWays
