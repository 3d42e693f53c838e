-- The definitions of this crate.
pub mod Heads
pub mod Bodies
pub mod Laws
