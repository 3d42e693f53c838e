-- The definitions of this crate.
pub mod Awaits
pub mod Answers
pub mod Transcript
pub mod Sending
pub mod Conversing
pub mod Laws
pub mod Refusals
pub mod Listings
pub mod Replies
