-- What the contracts of inner functions say.
pub mod Scan
pub mod Printed
