pub mod Names
pub mod Look
pub mod Walk
pub mod Lent
pub mod Contract
pub mod Proof
pub mod Notes
