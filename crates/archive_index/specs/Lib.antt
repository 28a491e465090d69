pub mod Index
pub mod Archives
pub mod Rows
pub mod Open
pub mod Contract
pub mod Proof
