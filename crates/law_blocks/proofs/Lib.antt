-- The lemmas of this crate.
pub mod Ranged
pub mod Unique
pub mod RangedStatements
pub mod RangedFiles
pub mod Others
pub mod Blocks
pub mod RangedPackages
pub mod RangedBindings
pub mod Examples
