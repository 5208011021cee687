pub mod Diagonal
pub mod OneWalk
