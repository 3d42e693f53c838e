-- The definitions of this crate.
pub mod Puts
pub mod RunJournals
pub mod Writes
