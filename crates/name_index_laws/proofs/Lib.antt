pub mod Order
pub mod PlacesRead
pub mod Terms
pub mod Examples
