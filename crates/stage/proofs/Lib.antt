pub mod Places
pub mod Staging
