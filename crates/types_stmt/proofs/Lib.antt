-- The lemmas of this crate.
pub mod Blocks
pub mod Cases
pub mod Chains
pub mod Examples
pub mod LoopProgress
pub mod Lists
pub mod CheckedSums
pub mod ListEquations
pub mod NoMembers
