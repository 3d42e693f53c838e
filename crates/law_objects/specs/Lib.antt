-- The definitions of this crate.
pub mod Replaced
pub mod SourcesBy
pub mod Objects
pub mod KeptUnits
pub mod RenumberedSources
pub mod KeptObjects
pub mod Legible
pub mod CarriedUnits
