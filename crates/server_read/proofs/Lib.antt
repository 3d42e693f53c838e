-- The lemmas of this crate.
pub mod LineSoFar
pub mod Words
pub mod Places
pub mod LineWords
pub mod Filled
pub mod Unique
pub mod Puts
pub mod Nexts
