-- The lemmas of this crate.
pub mod Names
pub mod KnownBefore
