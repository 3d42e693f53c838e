-- The definitions of this crate.
pub mod Listed
pub mod Requests
pub mod Asking
pub mod Locations
pub mod Folders
pub mod TextTasks
pub mod Words
pub mod Diagnostics
