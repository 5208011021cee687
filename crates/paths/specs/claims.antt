-- What is claimed of the call on bytes.
pub mod Host
