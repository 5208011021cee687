-- All of it is vocabulary of inner contracts of the array's calls: what the array does is said in systolic/specs.
pub mod Turn
pub mod Spans
pub mod Layout
