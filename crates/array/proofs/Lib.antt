pub mod Answers
pub mod RunNeeds
