pub mod Cells
pub mod Header
pub mod Contract
pub mod Proof
