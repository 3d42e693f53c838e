-- The lemmas of this crate.
pub mod Spots
pub mod MemberNames
pub mod MayUse
pub mod UsedAbroad
pub mod NameTokens
pub mod MembersUsed
pub mod NamesOfAll
pub mod UsesOfSome
pub mod SomeMembers
