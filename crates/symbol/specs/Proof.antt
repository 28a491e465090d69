pub mod Offset
pub mod RowLaws
pub mod Ways
