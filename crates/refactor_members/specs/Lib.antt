-- The definitions of this crate.
pub mod Renames
pub mod Naming
pub mod Judging
pub mod Owning
pub mod Reaching
