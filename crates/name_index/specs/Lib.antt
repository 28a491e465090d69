pub mod Named
pub mod Seek
pub mod Index
pub mod InOrder
pub mod Arrivals
pub mod Keys
pub mod Proof
