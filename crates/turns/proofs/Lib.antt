pub mod Geometry
pub mod Turns
pub mod Spans
