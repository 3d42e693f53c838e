-- The definitions of this crate.
pub mod Findings
pub mod Bindings
pub mod TwoRevisions
pub mod RenumberedWorkspace
