-- The lemmas of this crate.
pub mod Exported
pub mod Members
pub mod Laws
pub mod Qualifiers
pub mod MemberNames
pub mod UsedMembers
pub mod Corresponding
pub mod InTurn
pub mod Renumbering
pub mod Keeping
