-- The lemmas of this crate.
pub mod Kept
pub mod SendsTask
