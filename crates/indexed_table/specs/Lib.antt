pub mod Lookup
pub mod Indexed
