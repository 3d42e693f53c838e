-- The lemmas of this crate.
pub mod Covering
pub mod EachIdentifier
pub mod Elements
pub mod FileIdentifiers
pub mod Links
pub mod Ordered
pub mod Roles
pub mod Lexical
pub mod Places
pub mod HeldBytes
pub mod Members
pub mod OwnPaths
