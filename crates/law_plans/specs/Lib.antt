-- The definitions of this crate.
pub mod MovedBytes
pub mod GainedNames
pub mod SoundPackages
pub mod SoundRenames
pub mod SoundMoves
pub mod AffectedBytes
pub mod PlannedInPart
pub mod SoundObjects
