-- What is claimed of every printed text.
pub mod Cards
pub mod Shown
pub mod Borders
