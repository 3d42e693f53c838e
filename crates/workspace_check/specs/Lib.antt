-- The definitions of this crate.
pub mod Faults
pub mod Verdicts
pub mod FaultLists
pub mod Closures
pub mod Laws
pub mod KnownFindings
pub mod Found
pub mod Steps
pub mod Cycles
pub mod Earlier
pub mod PassedMarks
