-- The definitions of this crate.
pub mod Messages
pub mod Telling
pub mod Outcomes
pub mod Asked
