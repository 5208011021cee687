-- What is claimed of the reader.
pub mod Whole
pub mod Refusals
pub mod Memory
