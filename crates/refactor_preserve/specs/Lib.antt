-- The definitions of this crate.
pub mod BoundToOne
pub mod Preserved
pub mod Planned
