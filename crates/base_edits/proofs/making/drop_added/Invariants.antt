-- The changes so far, with those of the files that are left.
use Rattle.std.proofs.Common.{◌≡◌, ◌++◌, drop, map}
use Rattle.base_edits.specs.Inverse.{dropped}
use Rattle.base_edits.proofs.making.drop_added.Given as goal

abbrev pub invariant-loop-path : goal.invariant-loop-path
invariant-loop-path l = l.back.items ++ map dropped (drop l.path-index l.added) ≡ l.fn.back.items ++ map dropped l.added
