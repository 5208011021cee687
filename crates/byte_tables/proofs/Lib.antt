pub mod Parts
pub mod Stretch
pub mod Words
pub mod Cards
