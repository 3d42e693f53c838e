-- The invariants of the loops of `simple::name_targets`.
use Rattle.std.proofs.Common.{◌≡◌, take, map}
use Rattle.types_stmt.specs.Sides.{Takes}
use Rattle.types_stmt.specs.View.{target_of}
use Rattle.types_stmt.proofs.simple.name_targets.Given as goal

abbrev pub invariant-loop-item : goal.invariant-loop-item
invariant-loop-item l = map target_of l.targets.items ≡ map (λ i. Takes) (take l._item-index l.names)
