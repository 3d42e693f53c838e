-- The definitions of this crate.
pub mod Plan
pub mod Proposals
pub mod Steps
pub mod Decided
pub mod Bindings
pub mod Laws
pub mod MovePlan
pub mod MoveSteps
pub mod DecidedMoves
pub mod OwnExports
pub mod Restored
pub mod Renames
pub mod Moves
