-- The definitions of this crate.
pub mod Outcomes
pub mod Conflicts
pub mod Numbers
