-- What is claimed of the algebras.
pub mod Laws
