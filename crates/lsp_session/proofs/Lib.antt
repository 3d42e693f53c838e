-- The lemmas of this crate.
pub mod Written
pub mod GoneOn
pub mod Paid
