pub mod Object
pub mod Back
pub mod Writer
pub mod Tables
pub mod Trip
pub mod Examples
pub mod Counted
