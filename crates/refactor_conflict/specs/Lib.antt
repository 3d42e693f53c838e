-- The definitions of this crate.
pub mod Corresponding
pub mod NamesAfter
pub mod MembersAfter
pub mod MembersFound
pub mod OldPlaces
pub mod ScopedPackages
pub mod ScopeBindings
pub mod ConflictRefusal
pub mod BoundAfter
pub mod Firsts
pub mod Staying
pub mod Conflicts
pub mod ScopesAfter
