-- In a workspace without faults each package that is checked has the scopes that it has without checking.
pub use Rattle.law_renamed_workspaces.proofs.FaultlessScopes.{faultless, data_of, is_scoped, faultless_scoped}
