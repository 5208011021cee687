pub mod Any
pub mod Geometry
pub mod ListOf
pub mod Part
pub mod Same
pub mod Walk
