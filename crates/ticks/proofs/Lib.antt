pub mod Edged
pub mod Lent
pub mod Swept
pub mod Run
