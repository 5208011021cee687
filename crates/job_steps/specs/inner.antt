-- What the contracts of inner functions say; document 01's own words are in the folder above.
pub mod Tallies
pub mod States
pub mod Stepped
