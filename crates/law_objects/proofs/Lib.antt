-- Lemmas of this crate.
pub mod OperandsBy
pub mod ExpressionsBy
pub mod ListsBy
pub mod StatementsBy
pub mod SlotsStay
pub mod DeclarationsBy
pub mod NothingReplaced
mod NamesMoved
pub mod Sourced
mod ObjectsMove
pub mod LevelNames
pub mod MovesFrom
mod QualifiedNames
mod MethodNames
mod GlobalLaws
mod MemberLaws
pub mod Laws
pub mod UnitTexts
pub mod UnitsStay
pub mod Sources
pub mod Lists
pub mod Slots
pub mod Expressions
pub mod Statements
pub mod Declarations
pub mod Halves
pub mod Seen
pub mod NewNames
pub mod OwnNames
pub mod Literals
pub mod SourceAfter
pub mod ImportsAfter
pub mod ObjectsAfter
pub mod GainedObjectsLaws
pub mod AskedLegible
pub mod Turns
pub mod Symbols
pub mod LegibleLines
pub mod LegibleTexts
pub mod LegibleNames
pub mod PackageNames
pub mod LegibleObjects
pub mod Carried
pub mod Globals
