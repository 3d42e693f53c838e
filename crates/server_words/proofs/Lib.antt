-- The lemmas of this crate.
pub mod Numbers
pub mod Faults
pub mod Options
pub mod Parsed
