pub mod Leaving
pub mod TickLines
