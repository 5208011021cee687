-- All of it is vocabulary of the cells' own functions, which only `ticks` calls: what the array does is said in systolic/specs.
pub mod Work
pub mod Rows
pub mod Settled
