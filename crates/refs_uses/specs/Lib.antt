-- The definitions of this crate.
pub mod Abroad
pub mod MemberNames
pub mod MembersAbroad
pub mod Importing
pub mod Sought
pub mod SoughtMembers
pub mod UsesOfEach
