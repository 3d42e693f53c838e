-- The lemmas of this crate.
pub mod Packs
pub mod SameChanges
