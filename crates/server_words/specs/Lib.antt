-- The definitions of this crate.
pub mod CommandLine
pub mod CommandRequests
pub mod Reads
pub mod ToolOptions
