-- The definitions of this crate.
pub mod Changes
pub mod Documents
pub mod Uris
pub mod Laws
