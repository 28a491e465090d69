pub mod Visit
pub mod Visitor
pub mod Graph
pub mod Run
pub mod Contract
pub mod Proof
