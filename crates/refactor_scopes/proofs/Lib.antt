-- The lemmas of this crate.
pub mod OutcomeLaws
pub mod Listing
pub mod Firsts
pub mod Taken
pub mod Nearest
pub mod Renames
