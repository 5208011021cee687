pub mod Words
pub mod Shortest
