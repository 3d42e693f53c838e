-- The definitions of this crate.
pub mod Order
pub mod Tokens
pub mod Covered
pub mod Roles
pub mod MemberNames
pub mod Bytes
