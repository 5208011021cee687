-- What is claimed of the array.
pub mod Refusals
pub mod Demand
pub mod Corollaries
pub mod Zero
pub mod Cards
pub mod Rule
