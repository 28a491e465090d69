pub mod Copies
pub mod Ways
pub mod Words
