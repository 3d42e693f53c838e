-- What the loop of `changes::changes` keeps: the changes so far are those of the files that were passed.
use Rattle.std.specs.FinMap as map
use Rattle.refactor_move.proofs.Changing.{ChangesSoFar}
use Rattle.refactor_move.proofs.changes.changes.Given as goal

abbrev pub invariant-loop-path : goal.invariant-loop-path
invariant-loop-path l = ChangesSoFar l.moved l.edits (map.entries l.files) l.path-iterator l.changed.items
