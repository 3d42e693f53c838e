-- The lemmas of this crate.
pub mod Named
pub mod Faultless
pub mod CheckedText
pub mod Locality
pub mod OneUnit
pub mod PartPackages
pub mod Part
pub mod ClosurePart
pub mod InputVerdicts
