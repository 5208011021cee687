pub mod Held
pub mod Laws
pub mod Order
pub mod Betters
pub mod Above
pub mod Numbers
