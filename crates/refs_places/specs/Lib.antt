-- The definitions of this crate.
pub mod DeclaredPlaces
pub mod Identified
pub mod Outside
pub mod Homes
pub mod Beginnings
