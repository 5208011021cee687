-- What is claimed of a line.
pub mod Written
pub mod Exactly
