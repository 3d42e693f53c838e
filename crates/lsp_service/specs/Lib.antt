-- The definitions of this crate.
pub mod Failing
pub mod Catching
pub mod Answering
pub mod Publishing
pub mod Serving
