-- What is claimed of the calls for other languages.
pub mod Kept
