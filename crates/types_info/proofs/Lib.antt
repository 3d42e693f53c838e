-- The lemmas of this crate.
pub mod ResolvedTypes
pub mod TypeLists
pub mod SignatureParts
pub mod MeaningLists
pub mod DeclaredMeanings
pub mod NameParts
pub mod Implementing
pub mod WorldParts
pub mod DeclKinds
pub mod TreeOrder
pub mod OneMeaning
pub mod OneWorld
pub mod CopiedLists
pub mod NamesBefore
pub mod Listing
pub mod Gathered
