-- The answer to the goal of `gaining_renames::unnamed_renames_have_steps`.
use Rattle.law_gained_names.proofs.GainingRenamesLaws.{unnamed_renames_have_steps}
use Rattle.law_gained_names.proofs.gaining_renames.unnamed_renames_have_steps.Goals as goal

pub returns : goal.returns
returns c = unnamed_renames_have_steps
