-- All of it is vocabulary of the ticks' own functions, which only `array` calls: what the array does is said in systolic/specs.
pub mod Swept
pub mod Ready
