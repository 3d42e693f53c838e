-- The lemmas of this crate.
pub mod Resolving
pub mod Deciding
pub mod Unaffected
