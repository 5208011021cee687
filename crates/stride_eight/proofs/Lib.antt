pub mod Closing
pub mod Eliminates
pub mod Rows
pub mod Written
