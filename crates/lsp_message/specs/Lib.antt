-- The definitions of this crate.
pub mod Headers
pub mod Calls
pub mod Answers
pub mod Frames
pub mod Stages
pub mod Laws
