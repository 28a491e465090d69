pub mod Split
pub mod Resolution
pub mod Archive
pub mod Groups
pub mod Visibility
pub mod StringTableLaws
pub mod Examples
pub mod FileExamples
