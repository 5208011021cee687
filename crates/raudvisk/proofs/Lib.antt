pub mod Kept
pub mod RoadKept
