-- The answer to the goal of `existing::rename_edits_exist`.
use Rattle.law_gained_names.proofs.Whole.{edits_exist}
use Rattle.law_gained_names.proofs.existing.rename_edits_exist.Goals as goal

pub returns : goal.returns
returns c = edits_exist
