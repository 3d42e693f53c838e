-- The lemmas of this crate.
pub mod Marking
pub mod NoEdits
pub mod TokenEdits
pub mod EditMaps
pub mod Naming
pub mod GoFiles
pub mod Changing
pub mod Targets
pub mod Fitting
pub mod Planning
pub mod PathParts
