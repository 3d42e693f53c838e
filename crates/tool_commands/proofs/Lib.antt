-- The lemmas of this crate.
pub mod Tellings
pub mod WrittenTexts
