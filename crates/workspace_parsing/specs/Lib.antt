-- The definitions of this crate.
pub mod Overlaid
pub mod Promises
pub mod Shares
