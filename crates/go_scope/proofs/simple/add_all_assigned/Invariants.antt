-- The invariants of the loops of `simple::add_all_assigned`.
use Rattle.std.proofs.Common.{take}
use Rattle.std.specs.List.{flat_map}
use Rattle.go_scope.specs.IdentifierViews.{as_source, AddsTo}
use Rattle.go_scope.proofs.StatementParts.{assigned_part}
use Rattle.go_scope.proofs.simple.add_all_assigned.Given as goal

abbrev pub invariant-loop-item : goal.invariant-loop-item
invariant-loop-item l = AddsTo l.initial.found.items l.found.items (flat_map (assigned_part (as_source l.source)) (take l.item-index l.lefts))
