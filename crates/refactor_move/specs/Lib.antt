-- The definitions of this crate.
pub mod Following
pub mod FileEdits
pub mod Changes
pub mod MoveEdits
pub mod Steps
pub mod Uses
pub mod Untouched
pub mod Paths
pub mod PathSteps
