-- The answer to the goal of `verdicts::plain_workspace_stays_sound`.
use Rattle.law_renamed_workspaces.proofs.Laws.{whole}
use Rattle.law_renamed_workspaces.proofs.verdicts.plain_workspace_stays_sound.Goals as goal

pub returns : goal.returns
returns c = whole
