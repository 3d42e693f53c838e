-- The lemmas of this crate.
pub mod Finding
pub mod Refusing
pub mod Running
pub mod MovedFiles
