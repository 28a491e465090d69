pub mod Kept
pub mod Listed
pub mod Lot
pub mod TitleRules
pub mod Walks
