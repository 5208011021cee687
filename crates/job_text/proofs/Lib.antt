pub mod Zeros
pub mod Follows
pub mod Readings
