-- What is claimed of the walk that lays out a table.
pub mod OneWalk
