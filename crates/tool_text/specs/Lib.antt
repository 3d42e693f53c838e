-- The definitions of this crate.
pub mod Parts
pub mod Positions
pub mod Sentences
pub mod Diff
pub mod GoMod
pub mod Taken
pub mod Places
pub mod Laws
pub mod Journal
pub mod Faults
pub mod Plain
