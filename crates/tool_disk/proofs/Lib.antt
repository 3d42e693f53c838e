-- The lemmas of this crate.
pub mod FolderPackages
pub mod FolderSizes
pub mod Notes
pub mod RunJournals
