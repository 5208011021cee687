-- What is claimed of a way given.
pub mod Refusals
pub mod Reading
pub mod Cards
