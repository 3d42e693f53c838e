-- The definitions of this crate.
pub mod PutTokens
pub mod ProgramTrees
pub mod NamedFiles
pub mod TwoSteps
pub mod FilesInTwoSteps
pub mod Members
pub mod NamedPackage
pub mod BareImports
pub mod Existing
pub mod GainedName
pub mod NamedWorkspace
pub mod OwnName
pub mod UnnamedRenames
pub mod GainedStep
