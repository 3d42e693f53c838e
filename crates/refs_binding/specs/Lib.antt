-- The definitions of this crate.
pub mod Places
pub mod Identifiers
pub mod Binding
pub mod Uses
pub mod Steps
pub mod Members
pub mod Workspaces
pub mod WorkspaceFindings
pub mod Packages
pub mod Exports
pub mod Bindings
pub mod Indexed
pub mod PackageReaders
pub mod DeclaringPlaces
pub mod DeclaredNames
