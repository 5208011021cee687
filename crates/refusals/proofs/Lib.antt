pub mod Conditions
pub mod First
pub mod Cards
pub mod Reasons
