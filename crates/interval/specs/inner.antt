pub mod Compared
pub mod RangeChecks
