-- The answer to the goal of `renamed::renamed_known_verdicts_stay`.
use Rattle.law_renamed_workspaces.proofs.RenamedVerdicts.{all_renamed}
use Rattle.law_renamed_workspaces.proofs.renamed.renamed_known_verdicts_stay.Goals as goal

pub returns : goal.returns
returns c = all_renamed
