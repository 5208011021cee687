-- What is claimed of the elimination.
pub mod Refusals
pub mod Demand
pub mod Lengths
pub mod Ways
pub mod Monotone
