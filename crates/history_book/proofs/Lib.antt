-- The lemmas of this crate.
pub mod Settled
pub mod Entered
pub mod Comes
pub mod Numbers
pub mod Needed
pub mod OnCurrent
pub mod AtRest
pub mod Sides
pub mod StepsTaken
pub mod Advanced
pub mod CurrentChanged
pub mod Roomier
pub mod SeenStates
pub mod WorkLeft
pub mod BookUnits
