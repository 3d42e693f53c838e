-- The answers to the goals of `recut::renamed_file_keeps_its_tree`.
use Rattle.go_respelled.proofs.Trees.{file_stays, offset_moved}
use Rattle.go_respelled.proofs.recut.renamed_file_keeps_its_tree.Goals as goal

pub returns-clause-tree : goal.returns-clause-tree
returns-clause-tree c = file_stays

pub returns-clause-offsets : goal.returns-clause-offsets
returns-clause-offsets c = offset_moved
