pub mod Items
pub mod Ways
