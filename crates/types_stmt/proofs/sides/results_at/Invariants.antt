-- The invariants of the loops of `sides::results_at`.
use Rattle.std.proofs.Common.{◌≡◌, take, map}
use Rattle.types_expr.specs.View.{type_of}
use Rattle.types_expr.specs.Found.{list_value}
use Rattle.types_stmt.specs.Sides.{result_at}
use Rattle.types_stmt.proofs.sides.results_at.Given as goal

abbrev pub invariant-loop-result_type : goal.invariant-loop-result_type
invariant-loop-result_type l = map list_value l.values.items ≡ map (λ t. result_at l.place (type_of t)) (take l.result_type-index l.types)
