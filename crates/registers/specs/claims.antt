-- What is claimed of the register window.
pub mod Refusals
pub mod Transactions
pub mod Shown
pub mod Driver
pub mod Held
pub mod Cards
