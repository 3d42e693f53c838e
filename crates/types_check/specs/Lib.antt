-- The definitions of this crate.
pub mod Exports
pub mod TypeFaults
pub mod TypesView
pub mod Check
pub mod Building
pub mod EqualEntries
pub mod Known
