pub mod Bounds
pub mod Going
pub mod Words
pub mod Added
pub mod Stores
pub mod Taken
pub mod Halves
