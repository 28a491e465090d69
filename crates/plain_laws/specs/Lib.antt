pub mod BuiltRows
pub mod Agrees
pub mod Visits
pub mod Examples
