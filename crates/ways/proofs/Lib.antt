pub mod Short
pub mod Follow
pub mod Complete
pub mod Levelled
pub mod Accepted
pub mod Refusals
pub mod Reading
pub mod Cards
