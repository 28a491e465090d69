pub mod Paint
pub mod Swept
pub mod BySection
