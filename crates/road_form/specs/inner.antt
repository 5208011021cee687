-- What the contracts of inner functions say.
pub mod Numbers
pub mod Says
