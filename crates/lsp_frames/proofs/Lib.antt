-- The lemmas of this crate.
pub mod HeadSoFar
pub mod Unique
