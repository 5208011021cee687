-- What the contracts of inner functions say.
pub mod Said
pub mod Worded
pub mod Tallies
pub mod RowRead
