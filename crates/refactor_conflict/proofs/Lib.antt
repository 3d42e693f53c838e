-- The lemmas of this crate.
pub mod Becoming
pub mod Structs
pub mod OneScoped
pub mod OneUse
pub mod FieldsAfter
pub mod OnePlace
pub mod CorrespondingPlaces
pub mod MembersStay
pub mod BoundAfter
pub mod OneMember
pub mod KeepingFirst
pub mod MemberUses
pub mod Conflicts
pub mod Firsts
pub mod ConflictsDiffer
