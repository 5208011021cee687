pub mod Digits
pub mod Within
pub mod Lines
pub mod Heads
pub mod Arcs
