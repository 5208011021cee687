pub mod Commutes
pub mod Support
pub mod Agreement
pub mod Found
pub mod Arrays
pub mod Cards
