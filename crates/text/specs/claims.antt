-- What is claimed of bytes and numerals.
pub mod Numerals
pub mod Spelling
