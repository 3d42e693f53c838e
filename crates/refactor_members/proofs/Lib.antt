-- The lemmas of this crate.
pub mod Judged
pub mod FirstNamed
pub mod OldMembers
pub mod Counting
pub mod Renamed
pub mod NamesStay
pub mod UsesStay
pub mod Faultless
pub mod Homes
pub mod AllPackages
pub mod Telling
pub mod Unconcerned
pub mod Unreached
pub mod SetsApart
pub mod MemberLists
pub mod OwnersListed
