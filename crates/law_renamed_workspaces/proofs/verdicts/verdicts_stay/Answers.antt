-- The answer to the goal of `verdicts::verdicts_stay`.
use Rattle.law_renamed_workspaces.proofs.Laws.{each}
use Rattle.law_renamed_workspaces.proofs.verdicts.verdicts_stay.Goals as goal

pub returns : goal.returns
returns c = each
