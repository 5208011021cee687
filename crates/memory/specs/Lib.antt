pub mod Lists
pub mod Walked
