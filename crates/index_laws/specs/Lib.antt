pub mod Bearing
pub mod Listed
pub mod IndexedCalls
pub mod IndexedTurns
