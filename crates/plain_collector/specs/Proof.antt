pub mod Depth
pub mod Head
pub mod Ways
