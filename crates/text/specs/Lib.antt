pub mod Ascii
pub mod Numeral
pub mod Pieces
pub mod Joined
pub mod Page
pub mod inner
pub mod claims
