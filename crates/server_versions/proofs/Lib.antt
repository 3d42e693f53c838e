-- The lemmas of this crate.
pub mod Beginnings
pub mod AddingMoves
