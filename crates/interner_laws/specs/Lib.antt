pub mod Histories
pub mod Good
pub mod HistoriesWords
pub mod Interns
pub mod Judged
