pub mod Terms
pub mod Lists
pub mod Examples
pub mod Groups
