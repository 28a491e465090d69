pub mod Told
pub mod Load
