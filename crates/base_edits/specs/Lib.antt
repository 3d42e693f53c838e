-- The definitions of this crate.
pub mod EditSet
pub mod Edits
mod Examples
pub mod Fits
pub mod Inverse
pub mod Laws
pub mod Made
pub mod Moved
pub mod PassedEdits
pub mod Prepared
pub mod Revisions
pub mod RevisionsOfEdits
pub mod Ends
pub mod FilesMoved
