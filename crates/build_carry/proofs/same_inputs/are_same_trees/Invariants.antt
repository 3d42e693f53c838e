-- The files that were passed have equal paths and texts.
use Rattle.std.proofs.Common.{◌≡◌, take, map}
use Rattle.workspace_check.specs.Earlier.{tree_file}
use Rattle.build_carry.proofs.same_inputs.are_same_trees.Given as goal

abbrev pub invariant-loop-place : goal.invariant-loop-place
invariant-loop-place l = map tree_file (take l.place l.trees) ≡ map tree_file (take l.place l.others)
