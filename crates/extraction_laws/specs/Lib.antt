pub mod Some
pub mod Member
pub mod Differences
pub mod Admission
pub mod Answer
pub mod MemberWords
pub mod Taken
pub mod Wanted
