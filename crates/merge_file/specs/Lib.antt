pub mod MergeFile
pub mod Contract
pub mod Proof
