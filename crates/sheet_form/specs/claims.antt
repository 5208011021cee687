-- What is claimed of every sheet, for a reviewer.
pub mod Cards
pub mod Demand
pub mod None
pub mod Numbers
pub mod Sizes
pub mod Longer
