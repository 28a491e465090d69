pub mod Ways
pub mod Laws
