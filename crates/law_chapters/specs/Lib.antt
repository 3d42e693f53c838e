-- The definitions of this crate.
pub mod Chapters
pub mod Borders
