-- The answer to the goal of `renamed::exports_are_renamed`.
use Rattle.law_renamed_workspaces.proofs.RenamedLaws.{exports_are_renamed}
use Rattle.law_renamed_workspaces.proofs.renamed.exports_are_renamed.Goals as goal

pub returns : goal.returns
returns c = exports_are_renamed
