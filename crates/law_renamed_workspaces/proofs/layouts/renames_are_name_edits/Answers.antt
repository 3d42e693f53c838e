-- The answer to the goal of `layouts::renames_are_name_edits`.
use Rattle.law_renamed_workspaces.proofs.NameEdits.{renames_are}
use Rattle.law_renamed_workspaces.proofs.layouts.renames_are_name_edits.Goals as goal

pub returns : goal.returns
returns c = renames_are
