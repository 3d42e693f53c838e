-- The lemmas of this crate.
pub mod Told
pub mod RewriteParts
