-- The definitions of this crate.
pub mod Checked
pub mod Sides
pub mod Simple
pub mod Statements
pub mod Headers
pub mod Declarations
pub mod View
