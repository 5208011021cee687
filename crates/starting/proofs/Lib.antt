pub mod StartNeeds
pub mod States
