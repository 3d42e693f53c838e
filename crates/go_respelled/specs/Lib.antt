-- The definitions of this crate.
pub mod Literals
pub mod Renamings
pub mod PieceEdits
pub mod Trees
pub mod Replaced
