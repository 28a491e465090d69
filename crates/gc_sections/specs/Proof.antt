pub mod EachWays
pub mod RunWays
pub mod TablesWays
