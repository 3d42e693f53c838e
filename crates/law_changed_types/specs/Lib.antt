-- The definitions of this crate.
pub mod SameBindings
pub mod MemberUses
pub mod Moved
pub mod Moves
pub mod MovedPackage
pub mod Renumbering
pub mod Renumbers
pub mod RenumberedPackage
