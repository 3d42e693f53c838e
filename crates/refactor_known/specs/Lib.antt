-- The definitions of this crate.
pub mod Swaps
pub mod MovedData
pub mod MovedKnown
pub mod Tables
