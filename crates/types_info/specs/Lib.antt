-- The definitions of this crate.
pub mod MeaningsView
pub mod SignatureView
pub mod NamesView
pub mod MemberUses
pub mod PackageOf
pub mod Worlds
pub mod Uniqueness
pub mod DefinitionsView
pub mod Lists
pub mod QualifiedIdentifiers
