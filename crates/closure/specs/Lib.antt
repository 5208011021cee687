pub mod Table
pub mod Elimination
pub mod Ways
pub mod Tests
pub mod claims
