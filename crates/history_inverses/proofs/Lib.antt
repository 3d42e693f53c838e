-- Proofs about histories.
pub mod Walks
pub mod Returns
