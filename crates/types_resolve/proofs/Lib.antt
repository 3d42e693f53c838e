-- The lemmas of this crate.
pub mod Used
pub mod MarkParts
pub mod UnknownParts
mod Examples
