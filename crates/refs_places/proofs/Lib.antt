-- The lemmas of this crate.
pub mod Declared
pub mod Found
pub mod Starts
pub mod HomeMarks
