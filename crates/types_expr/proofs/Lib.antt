-- The lemmas of this crate.
pub mod AddedJudgements
pub mod Equations
pub mod Examples
pub mod Items
pub mod LocalTypes
pub mod Misfits
pub mod NoteLists
pub mod SeenRanks
pub mod Trees
pub mod Values
