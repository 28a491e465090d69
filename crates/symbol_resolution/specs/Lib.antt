pub mod Decision
pub mod Holder
pub mod RowsUndefined
pub mod Decide
pub mod Apply
pub mod Lent
pub mod Proof
