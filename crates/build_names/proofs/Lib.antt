-- The lemmas of this crate.
pub mod Symbols
pub mod Steps
