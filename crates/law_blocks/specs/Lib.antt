-- The definitions of this crate.
pub mod Ranges
pub mod Lookup
pub mod Laws
mod Examples
