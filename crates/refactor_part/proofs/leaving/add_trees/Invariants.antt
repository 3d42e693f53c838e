-- The paths of the trees that were passed were added.
use Rattle.std.proofs.Common.{◌≡◌, ◌++◌, map, take}
use Rattle.workspace_graph.specs.Borrows.{names}
use Rattle.refactor_part.specs.LeftOut.{path_of_tree}
use Rattle.refactor_part.proofs.leaving.add_trees.Given as goal

abbrev pub invariant-loop-tree : goal.invariant-loop-tree
invariant-loop-tree l = names l.paths.items ≡ names l.initial.paths.items ++ map path_of_tree (take l.tree-index l.trees)
