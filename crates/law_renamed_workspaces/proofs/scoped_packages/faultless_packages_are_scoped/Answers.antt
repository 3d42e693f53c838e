-- The answers to the goals of `scoped_packages::faultless_packages_are_scoped`.
use Rattle.law_renamed_workspaces.proofs.FaultlessScopes.{faultless_scoped}
use Rattle.law_renamed_workspaces.proofs.MovedTokens.{have_places}
use Rattle.law_renamed_workspaces.proofs.scoped_packages.faultless_packages_are_scoped.Goals as goal

pub returns : goal.returns
returns c = record { scopes = faultless_scoped; places = have_places }
