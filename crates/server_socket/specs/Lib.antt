-- The definitions of this crate.
pub mod Served
pub mod Session
pub mod Returned
pub mod SeatStep
pub mod SeatWait
pub mod Turns
