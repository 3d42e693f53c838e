-- The lemmas of this crate.
pub mod Plain
pub mod Replaying
pub mod Leading
