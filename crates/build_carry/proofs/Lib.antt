-- The lemmas of this crate.
pub mod Carrying
pub mod FinishedUnits
pub mod ClosureTexts
pub mod ChangedFolders
pub mod LearnedVerdicts
pub mod ParsedFiles
pub mod SameInputs
pub mod ChangedFiles
pub mod ComparedPackages
pub mod TakenVerdicts
