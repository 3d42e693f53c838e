-- The answer to the goal of `unnamed_renames::unnamed_conflicts_refuse`.
use Rattle.law_gained_names.proofs.UnnamedRenamesWhole.{unnamed_conflicts_refuse}
use Rattle.law_gained_names.proofs.unnamed_renames.unnamed_conflicts_refuse.Goals as goal

pub returns : goal.returns
returns c = unnamed_conflicts_refuse
