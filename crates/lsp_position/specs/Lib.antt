-- The definitions of this crate.
pub mod Units
pub mod Positions
pub mod Offsets
pub mod Laws
