-- The lemmas of this crate.
pub mod Building
pub mod NotesInTurn
pub mod TypeFaultParts
pub mod OneLaid
pub mod Staging
pub mod WholeCheck
pub mod ExportParts
pub mod Values
pub mod Known
