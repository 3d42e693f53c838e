-- The lemmas of this crate.
pub mod Paths
pub mod Joining
pub mod Steps
pub mod Whole
pub mod MarkedRows
pub mod PlainTokens
pub mod Readings
