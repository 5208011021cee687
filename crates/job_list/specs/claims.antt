-- What is claimed of a list's words.
pub mod Places
