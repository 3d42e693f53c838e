-- The lemmas of this crate.
pub mod Blocks
pub mod PackageFolders
pub mod WorkspaceLaws
pub mod Standing
pub mod Putting
pub mod Pushing
