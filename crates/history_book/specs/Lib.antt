-- The definitions of this crate.
pub mod Outcomes
pub mod Needed
pub mod Handed
pub mod Following
pub mod Entered
pub mod CurrentInputs
pub mod CurrentUnits
pub mod Histories
pub mod Fresh
pub mod Questions
pub mod WorkLeft
