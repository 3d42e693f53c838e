-- The definitions of this crate.
pub mod Implementing
pub mod Coupling
pub mod Obstacles
pub mod ObstacleRefusal
pub mod RenamedTypes
pub mod RenamedTypesView
pub mod Called
pub mod FirstTurns
pub mod Turning
pub mod Reached
pub mod CoupledEdits
