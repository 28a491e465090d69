pub mod Calls
pub mod Contract
pub mod FileCalls
pub mod FileContract
