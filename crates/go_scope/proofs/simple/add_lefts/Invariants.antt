-- The invariants of the loops of `simple::add_lefts`.
use Rattle.std.proofs.Common.{take}
use Rattle.std.specs.List.{flat_map}
use Rattle.go_scope.specs.IdentifierViews.{as_source, AddsTo}
use Rattle.go_scope.proofs.StatementParts.{left_part}
use Rattle.go_scope.proofs.simple.add_lefts.Given as goal

abbrev pub invariant-loop-item : goal.invariant-loop-item
invariant-loop-item l = AddsTo l.initial.found.items l.found.items (flat_map (left_part (as_source l.source) l.block l.following) (take l.item-index l.lefts))
