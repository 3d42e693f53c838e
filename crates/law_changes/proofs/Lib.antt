-- The lemmas of this crate.
pub mod Made
pub mod Going
