pub mod StartLeft
