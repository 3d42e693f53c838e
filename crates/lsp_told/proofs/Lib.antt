-- The lemmas of this crate.
pub mod OneMore
pub mod Refusing
