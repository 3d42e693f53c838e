-- The definitions of this crate.
pub mod FaultlessPart
pub mod LeftOut
pub mod Affected
pub mod FirstFaults
