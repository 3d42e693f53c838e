-- The answers to the goals of `local_renames::local_renames_keep_other_packages`.
use Rattle.law_renamed_workspaces.proofs.KeptSelectors.{selectors}
use Rattle.law_renamed_workspaces.proofs.KeptExports.{exports_stay}
use Rattle.law_renamed_workspaces.proofs.KeptScopes.{others_keep}
use Rattle.law_renamed_workspaces.proofs.local_renames.local_renames_keep_other_packages.Goals as goal

pub returns : goal.returns
returns c = record { scopes = others_keep; exports = exports_stay; selectors = selectors }
