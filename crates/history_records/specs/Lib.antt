-- The definitions of this crate.
pub mod Records
pub mod Encoded
pub mod Asked
pub mod Laws
