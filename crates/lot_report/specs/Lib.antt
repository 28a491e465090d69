pub mod Count
pub mod Figures
pub mod Report
pub mod Proof
