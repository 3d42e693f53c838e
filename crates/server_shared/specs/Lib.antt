-- The definitions of this crate.
pub mod Held
pub mod Call
pub mod Settled
pub mod Past
pub mod Due
pub mod Reserved
pub mod Steps
pub mod SettledBook
pub mod Working
pub mod Waking
pub mod Standing
pub mod LimitNumbers
pub mod SeenFiles
