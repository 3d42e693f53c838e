-- The proofs of this crate.
pub mod Sound
pub mod Planned
pub mod AffectedPackages
pub mod WithinPart
pub mod MovesApart
pub mod MovePlanned
pub mod Starting
pub mod OwnMark
pub mod PlannedRead
pub mod HomesAbove
