-- The answers to the goals of `renumbered::renumbered_tree_is_written`.
use Rattle.law_rename.proofs.KeptTrees.{file_kept}
use Rattle.law_rename.proofs.Renumbering.{file_same}
use Rattle.law_rename.proofs.renumbered.renumbered_tree_is_written.Goals as goal

pub returns-clause-well_formed : goal.returns-clause-well_formed
returns-clause-well_formed c = file_kept

pub returns-clause-written : goal.returns-clause-written
returns-clause-written c = file_same
