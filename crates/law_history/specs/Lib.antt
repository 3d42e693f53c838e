-- The definitions of this crate.
pub mod Pushing
pub mod Nearest
pub mod Replays
