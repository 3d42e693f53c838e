-- The lemmas of this crate.
pub mod Telling
pub mod Catching
