-- The lemmas of this crate.
pub mod Pushed
pub mod Reached
pub mod Effects
pub mod Tickets
pub mod Outlines
pub mod Unique
pub mod Runs
