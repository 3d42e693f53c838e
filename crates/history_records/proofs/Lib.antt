-- The lemmas of this crate.
pub mod Heads
pub mod ReadRecords
pub mod RecordLaws
pub mod Coded
pub mod Parts
pub mod Sets
