pub mod Follows
pub mod Readings
pub mod Refusals
pub mod Whole
pub mod Memory
