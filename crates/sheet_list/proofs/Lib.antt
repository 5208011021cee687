pub mod Memory
pub mod Run
