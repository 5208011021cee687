pub mod Levels
pub mod Sought
