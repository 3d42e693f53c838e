-- The definitions of this crate.
pub mod Naming
pub mod Spans
pub mod Edits
pub mod Replaced
