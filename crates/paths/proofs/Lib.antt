pub mod ByteClaims
pub mod Rooms
