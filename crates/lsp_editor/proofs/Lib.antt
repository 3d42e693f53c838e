-- The lemmas of this crate.
pub mod Paths
pub mod Heeded
pub mod Noted
pub mod Keeping
