-- The answer to the goal of `replaced::replaced_files_keep_trees`.
use Rattle.law_moves.proofs.NewTokens.{files_keep_trees}
use Rattle.law_moves.proofs.replaced.replaced_files_keep_trees.Goals as goal

pub returns : goal.returns
returns c = files_keep_trees
