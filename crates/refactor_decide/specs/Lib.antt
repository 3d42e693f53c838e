-- The definitions of this crate.
pub mod Capturers
pub mod Own
pub mod Turned
pub mod Behind
pub mod Deciding
