-- What is claimed of the words in which tests are stated.
pub mod Cards
