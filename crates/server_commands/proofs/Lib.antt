-- The lemmas of this crate.
pub mod Based
pub mod CarriedAlong
pub mod NumbersLaws
