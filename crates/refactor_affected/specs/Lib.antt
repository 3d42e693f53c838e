-- The definitions of this crate.
pub mod Starts
pub mod Renames
pub mod Moves
pub mod Whole
pub mod Steps
pub mod InPart
