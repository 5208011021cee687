pub mod Inverted
pub mod Refusals
pub mod Accepted
pub mod Between
pub mod Ranged
pub mod Cards
