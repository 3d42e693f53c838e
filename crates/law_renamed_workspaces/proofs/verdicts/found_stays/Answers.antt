-- The answer to the goal of `verdicts::found_stays`.
use Rattle.law_renamed_workspaces.proofs.Laws.{found}
use Rattle.law_renamed_workspaces.proofs.verdicts.found_stays.Goals as goal

pub returns : goal.returns
returns c = found
