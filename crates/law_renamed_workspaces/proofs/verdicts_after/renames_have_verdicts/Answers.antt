-- The answer to the goal of `verdicts::renames_have_verdicts`.
use Rattle.law_renamed_workspaces.proofs.NewVerdicts.{have_verdicts}
use Rattle.law_renamed_workspaces.proofs.verdicts_after.renames_have_verdicts.Goals as goal

pub returns : goal.returns
returns c = have_verdicts
