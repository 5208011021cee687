pub mod Maps
pub mod Agreement
pub mod Arrays
pub mod Cards
