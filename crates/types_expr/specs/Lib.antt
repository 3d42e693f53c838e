-- The definitions of this crate.
pub mod Places
pub mod Types
pub mod World
pub mod Operations
pub mod Judge
pub mod View
pub mod WorldView
pub mod Found
pub mod Lists
