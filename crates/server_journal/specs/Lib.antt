-- The definitions of this crate.
pub mod Stores
pub mod Recovered
pub mod Opened
pub mod Keeping
pub mod Beginning
pub mod Laws
