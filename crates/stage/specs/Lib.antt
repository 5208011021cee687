-- All of it is vocabulary of the ticks, which only `array` calls: what the array does is said in systolic/specs.
pub mod Found
pub mod Staged
