-- The definitions of this crate.
pub mod Folders
pub mod Taken
pub mod Editors
pub mod Heeding
pub mod Publications
