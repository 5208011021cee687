-- What is claimed of words in bytes.
pub mod Cards
