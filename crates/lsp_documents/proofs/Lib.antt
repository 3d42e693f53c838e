-- The lemmas of this crate.
pub mod Following
pub mod Naming
pub mod Putting
