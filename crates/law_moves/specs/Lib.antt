-- The definitions of this crate.
pub mod OneNewName
pub mod Moves
pub mod Replacements
pub mod MovedPackages
pub mod KeptNames
pub mod ThereMoved
pub mod MoveConflicts
pub mod MovedVerdicts
pub mod MovedFindings
pub mod Moving
pub mod Agreement
