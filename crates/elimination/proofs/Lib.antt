pub mod Eliminates
pub mod Points
pub mod Rows
pub mod Through
