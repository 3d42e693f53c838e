-- The lemmas of this crate.
pub mod Stepping
pub mod Rising
pub mod Searching
pub mod Counting
