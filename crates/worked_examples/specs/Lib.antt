pub mod Examples
pub mod Groups
pub mod Lists
