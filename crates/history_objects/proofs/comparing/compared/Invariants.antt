-- The invariants of the loops of `comparing::compared`.
use Rattle.std.proofs.Common.{◌≡◌, length}
use Rattle.history_objects.specs.ComparedObjects.{AreComparedObjects}
use Rattle.history_objects.proofs.comparing.compared.Given as goal

-- the packages so far
abbrev pub invariant-loop-number : goal.invariant-loop-number
invariant-loop-number l = (length l.items.items ≡ l.number) × AreComparedObjects l.before l.view l.items.items
