-- The definitions of this crate.
pub mod Places
pub mod Edits
pub mod Faults
pub mod Capabilities
