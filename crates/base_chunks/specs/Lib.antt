-- The definitions of this crate.
pub mod Chunks
pub mod Entries
