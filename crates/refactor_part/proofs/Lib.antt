-- The proofs of this crate.
pub mod GoodImports
pub mod PartFiles
pub mod PartClosures
pub mod Smaller
pub mod FaultOrder
pub mod Carried
pub mod PartEdits
pub mod PartChanges
pub mod LeftFiles
pub mod LeavingOut
pub mod MorePaths
