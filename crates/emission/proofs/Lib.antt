pub mod PlaneWords
pub mod Sent
pub mod Emitted
