-- The definitions of this crate.
pub mod NewName
pub mod Naming
pub mod Literals
pub mod RenameEdits
pub mod Changes
pub mod Replacements
pub mod FileEdits
pub mod Here
