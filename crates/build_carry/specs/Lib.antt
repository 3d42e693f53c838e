-- The definitions of this crate.
pub mod Carried
pub mod Finished
pub mod Changes
pub mod Inputs
pub mod Named
pub mod Learned
