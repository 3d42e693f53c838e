-- The answer to the goal of `renamed::methods_are_renamed`.
use Rattle.law_renamed_workspaces.proofs.RenamedLaws.{methods_are_renamed}
use Rattle.law_renamed_workspaces.proofs.renamed.methods_are_renamed.Goals as goal

pub returns : goal.returns
returns c = methods_are_renamed
