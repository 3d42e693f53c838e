-- The lemmas of this crate.
pub mod Stored
pub mod Repeated
pub mod Recovering
pub mod Opening
pub mod KeptLaws
pub mod Lossless
