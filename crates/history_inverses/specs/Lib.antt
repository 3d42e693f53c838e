-- The definitions of this crate.
pub mod Inverses
pub mod Moves
pub mod Laws
