-- The answer to the goal of `verdicts::verdicts_stay_above`.
use Rattle.law_renamed_workspaces.proofs.Laws.{above}
use Rattle.law_renamed_workspaces.proofs.verdicts.verdicts_stay_above.Goals as goal

pub returns : goal.returns
returns c = above
