-- What is claimed of two closed tables.
pub mod Refusals
pub mod Between
pub mod Ranged
pub mod Cards
