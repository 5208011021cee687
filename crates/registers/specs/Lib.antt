pub mod Registers
pub mod Reading
pub mod Writing
pub mod Number
pub mod claims
