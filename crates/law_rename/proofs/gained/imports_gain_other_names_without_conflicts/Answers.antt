-- The answer to the goal of `gained::imports_gain_other_names_without_conflicts`.
use Rattle.law_rename.proofs.Renamed.{renamed_kept}
use Rattle.law_rename.proofs.gained.imports_gain_other_names_without_conflicts.Goals as goal

pub returns : goal.returns
returns c = renamed_kept
