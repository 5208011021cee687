-- What is claimed of the reads.
pub mod Outcomes
