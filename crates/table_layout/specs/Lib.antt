pub mod LaidOut
pub mod claims
