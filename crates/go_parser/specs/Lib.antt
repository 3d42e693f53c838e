-- The definitions of this crate.
pub mod Machine
pub mod Grouping
pub mod Spelling
pub mod ListSpelling
pub mod Listed
pub mod Parsing
pub mod Strength
pub mod Lookahead
pub mod Leaf
pub mod TokenClasses
pub mod ParseResults
