pub mod Tokens
pub mod Forms
pub mod Words
pub mod Buffer
pub mod inner
pub mod claims
