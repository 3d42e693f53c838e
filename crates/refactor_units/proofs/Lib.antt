-- The lemmas of this crate.
pub mod PlainRenames
pub mod AloneRenames
pub mod UnnamedRenames
pub mod LocalRenames
pub mod Missed
pub mod RefusedNames
pub mod LevelAt
pub mod LevelRenames
pub mod PlannedObjects
