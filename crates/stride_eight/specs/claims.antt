-- What is claimed of the layout in rows of eight words.
pub mod Rows
