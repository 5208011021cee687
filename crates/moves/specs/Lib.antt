-- All of it is vocabulary of the moves' own functions, which only `ticks` calls: what the array does is said in systolic/specs.
pub mod Lent
pub mod Moved
pub mod Slid
pub mod Stored
pub mod Edges
