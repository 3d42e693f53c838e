-- The definitions of this crate.
pub mod Commands
pub mod Failures
pub mod Last
pub mod FirstLine
pub mod Words
pub mod Lines
pub mod Wire
pub mod Incoming
pub mod Laws
pub mod Parsing
pub mod Stops
pub mod Bodies
pub mod Puts
pub mod NextMessage
