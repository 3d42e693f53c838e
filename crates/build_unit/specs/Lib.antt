-- The definitions of this crate.
pub mod Codes
pub mod Inputs
pub mod Parts
pub mod Jobs
pub mod Units
pub mod BuiltUnits
pub mod Builds
pub mod Naming
pub mod Compiling
pub mod Laws
