-- The invariants of the loops of `reuse::are_same_trees`.
use Rattle.std.proofs.Common.{◌≡◌, map, take}
use Rattle.workspace_check.specs.Earlier.{tree_file}
use Rattle.workspace_check.proofs.reuse.are_same_trees.Given as goal

abbrev pub invariant-loop-place : goal.invariant-loop-place
invariant-loop-place l = map tree_file (take l.place l.before) ≡ map tree_file (take l.place l.after)
