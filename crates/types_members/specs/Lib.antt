-- The definitions of this crate.
pub mod Cycles
pub mod SearchSteps
pub mod MemberFaults
pub mod FieldsView
pub mod MemberNames
pub mod MethodsView
pub mod Recursion
pub mod MembersView
pub mod TypeMembers
pub mod Steps
