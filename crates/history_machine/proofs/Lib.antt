-- The lemmas of this crate.
pub mod Waits
pub mod Fresh
pub mod Replies
pub mod Stepped
pub mod Reaching
pub mod Legal
pub mod JournalSteps
pub mod Journaled
pub mod NumberLaws
pub mod RunLaws
pub mod CurrentLaws
pub mod PathNumbers
