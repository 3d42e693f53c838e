-- The definitions of this crate.
pub mod Queries
pub mod ObjectChanges
pub mod Work
pub mod Numbers
pub mod Wait
pub mod Act
