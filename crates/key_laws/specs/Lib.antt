pub mod Rekeyed
pub mod SectionNames
