-- The definitions of this crate.
mod Examples
pub mod Renumbered
pub mod Around
pub mod Named
pub mod Put
pub mod MovedSites
pub mod Renaming
pub mod Seen
pub mod MayGain
pub mod Gained
pub mod Respelled
