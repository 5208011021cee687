pub mod Rows
pub mod Back
pub mod Chosen
pub mod Slid
pub mod RowsUp
pub mod Planes
pub mod Stored
pub mod Entered
