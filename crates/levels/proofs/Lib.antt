pub mod Searching
pub mod Turns
pub mod Following
pub mod Backed
