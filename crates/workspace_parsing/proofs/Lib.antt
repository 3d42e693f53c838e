-- The lemmas of this crate.
pub mod AllPaths
pub mod Parts
pub mod PackageFiles
pub mod JoinedParts
pub mod Overlaid
pub mod PutPackages
pub mod Kept
pub mod SendsTrees
pub mod SendsGraph
pub mod SendsTask
