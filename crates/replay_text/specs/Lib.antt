pub mod Answers
pub mod RepliesAnswers
