-- The answer to the goal of `unnamed_renames::unnamed_renames_keep_others`.
use Rattle.law_gained_names.proofs.UnnamedRenamesWhole.{unnamed_renames_keep_others}
use Rattle.law_gained_names.proofs.unnamed_renames.unnamed_renames_keep_others.Goals as goal

pub returns : goal.returns
returns c = unnamed_renames_keep_others
