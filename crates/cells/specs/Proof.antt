pub mod Part
pub mod Split
pub mod Rows
