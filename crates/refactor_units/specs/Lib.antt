-- The definitions of this crate.
pub mod LocalNames
pub mod LevelNames
pub mod CarriedNames
pub mod PlannedObjects
