-- The invariants of the loops of `declarations::global_targets`.
use Rattle.std.proofs.Common.{◌≡◌, take, map, option_map}
use Rattle.types_expr.specs.View.{type_of}
use Rattle.types_stmt.specs.Sides.{Wants}
use Rattle.types_stmt.specs.View.{target_of}
use Rattle.types_stmt.proofs.declarations.global_targets.Given as goal

abbrev pub invariant-loop-item : goal.invariant-loop-item
invariant-loop-item l = map target_of l.targets.items ≡ map (λ i. Wants (option_map type_of l.own)) (take l._item-index l.names)
