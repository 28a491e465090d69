pub mod NameWays
pub mod Names
pub mod Terms
pub mod Tables
pub mod Ranges
pub mod Trip
pub mod Accepted
pub mod Written
pub mod Back
mod Counted
pub mod Writer
pub mod Rows
