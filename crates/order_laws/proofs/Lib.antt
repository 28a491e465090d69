pub mod Terms
mod Examples
mod Entries
mod Named
mod Accepted
mod Kept
mod Used
mod Step
mod Run
mod Rows
mod Contents
mod Start
mod Order
