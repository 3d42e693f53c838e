-- The lemmas of this crate.
pub mod Standing
pub mod Joining
pub mod Mapping
pub mod Listing
pub mod Stepping
