-- The definitions of this crate.
pub mod Agreement
pub mod ConflictsByTables
pub mod KnownStay
pub mod ScopeRenames
pub mod Others
pub mod Behind
pub mod ScopeConflicts
pub mod PlainAgreement
