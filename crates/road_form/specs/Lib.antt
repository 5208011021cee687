pub mod Forms
pub mod inner
