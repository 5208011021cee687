pub mod Walks
pub mod Checks
pub mod Answers
