-- The definitions of this crate.
pub mod ImportNames
pub mod FirstConflicts
pub mod MoveConflicts
pub mod PlainPackages
pub mod MoveReadings
