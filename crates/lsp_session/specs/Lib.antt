-- The definitions of this crate.
pub mod Outcomes
pub mod Messages
pub mod Paying
pub mod Turns
