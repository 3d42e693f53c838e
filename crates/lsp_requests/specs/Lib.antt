-- The definitions of this crate.
pub mod Texts
pub mod Committing
pub mod Uses
pub mod FolderMoves
pub mod Faults
pub mod Answers
