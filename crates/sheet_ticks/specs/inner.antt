-- What the functions inside ask of each other. No claim rests on these words.
pub mod Leaving
