-- The definitions of this crate.
pub mod Clauses
pub mod Imports
pub mod Scoping
pub mod QualifiedParts
pub mod StatementMarks
pub mod Stages
