-- The definitions of this crate.
pub mod Members
pub mod Asked
pub mod Changed
pub mod Client
