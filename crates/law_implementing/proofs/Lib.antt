-- The lemmas of this crate.
pub mod RenamedHomes
pub mod AllDefinitions
pub mod AllAfter
pub mod TypesBecome
pub mod EditedDefinitions
pub mod SetMembers
pub mod MembersCalled
pub mod NoneTurns
pub mod SeenTypes
pub mod SeenImplementing
pub mod Deciding
pub mod Sets
pub mod NamesKept
pub mod UnnamedDecided
pub mod MovesImplementing
pub mod Laws
