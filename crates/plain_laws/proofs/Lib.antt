pub mod Terms
pub mod Compared
pub mod Examples
pub mod Visits
pub mod Agrees
pub mod AgreesLemmas
