-- The lemmas of this crate.
pub mod Changes
pub mod EditedText
pub mod Entries
pub mod FilesAfter
pub mod Fitting
pub mod Held
pub mod MadeFiles
pub mod MovedPlaces
pub mod Restored
pub mod Searched
pub mod Steps
pub mod Turned
pub mod Ending
pub mod Called
