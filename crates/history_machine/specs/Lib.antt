-- The definitions of this crate.
pub mod Kinds
pub mod Codes
pub mod PathPlaces
pub mod State
pub mod Journal
pub mod Machine
pub mod Waiting
pub mod Deliveries
pub mod Step
pub mod JournalSteps
pub mod MayReply
pub mod Run
pub mod Chapters
pub mod Current
pub mod Resting
