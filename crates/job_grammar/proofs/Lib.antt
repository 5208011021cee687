pub mod Ahead
pub mod Leads
pub mod Accepted
