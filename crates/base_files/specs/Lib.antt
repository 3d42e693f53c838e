-- The definitions of this crate.
pub mod FaultNames
pub mod Packages
pub mod Path
pub mod PathRead
pub mod PlaceText
pub mod Workspace
pub mod Entries
