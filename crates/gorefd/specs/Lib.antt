-- The definitions of this crate.
pub mod Statuses
pub mod OneSession
