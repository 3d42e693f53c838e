-- The lemmas of this crate.
pub mod Exchanges
pub mod Steps
pub mod Sent
pub mod Served
pub mod Ended
pub mod Runs
pub mod Parts
