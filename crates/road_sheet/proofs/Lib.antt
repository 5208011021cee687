pub mod Cards
pub mod Closing
pub mod Entries
pub mod Files
pub mod Points
pub mod Room
pub mod Shown
pub mod Borders
