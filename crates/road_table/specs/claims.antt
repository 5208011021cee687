-- What is claimed of the table.
pub mod Shortest
