-- What is claimed of the reader.
pub mod Borders
pub mod Insensitive
pub mod Listing
pub mod Whole
pub mod Refusals
pub mod Zeroed
pub mod Given
