-- The definitions of this crate.
pub mod Grammar
pub mod Language
pub mod Verdict
pub mod Tree
pub mod Flatten
pub mod WellFormed
pub mod View
pub mod FileView
pub mod Kinds
pub mod SourceFile
pub mod Faults
