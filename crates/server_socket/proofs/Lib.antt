-- The lemmas of this crate.
mod Lifts
pub mod Captures
pub mod SeatsSent
mod ServedLaws
mod SessionLaws
mod SeenAtDesk
mod ToldNumbers
mod ReturnedLaws
