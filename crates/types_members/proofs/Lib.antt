-- The lemmas of this crate.
pub mod Reaching
pub mod Marking
pub mod FieldParts
pub mod Steps
pub mod Filling
pub mod NameKeys
pub mod Noting
pub mod FieldNames
pub mod Owning
pub mod FieldsHad
pub mod MethodNames
pub mod Holding
pub mod Displacing
pub mod SearchTurns
