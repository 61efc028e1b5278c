pub mod AnswerType
pub mod Stored
