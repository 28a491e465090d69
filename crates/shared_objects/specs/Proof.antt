pub mod Ways
pub mod NeedWays
pub mod ListsWays
pub mod SymbolsLoadWays
