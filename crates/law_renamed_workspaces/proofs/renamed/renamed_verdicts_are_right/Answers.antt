-- The answer to the goal of `renamed::renamed_verdicts_are_right`.
use Rattle.law_renamed_workspaces.proofs.RenamedVerdicts.{renamed_right}
use Rattle.law_renamed_workspaces.proofs.renamed.renamed_verdicts_are_right.Goals as goal

pub returns : goal.returns
returns c = renamed_right
