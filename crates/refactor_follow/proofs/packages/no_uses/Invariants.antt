-- What the loop of `packages::no_uses` keeps: there are no marks yet.
use Rattle.refactor_follow.specs.MoveReadings.{HasNoMarks}
use Rattle.refactor_follow.proofs.packages.no_uses.Given as goal

abbrev pub invariant-loop-number : goal.invariant-loop-number
invariant-loop-number l = HasNoMarks l._number l.uses.items
