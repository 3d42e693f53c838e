-- The invariants of the loops of `locals::declare_each`.
use Rattle.std.proofs.Common.{◌≡◌, drop, map}
use Rattle.types_expr.specs.Found.{locals_of, list_value}
use Rattle.types_stmt.specs.Sides.{with_locals, inferred_types}
use Rattle.types_stmt.proofs.locals.declare_each.Given as goal

abbrev pub invariant-loop-i : goal.invariant-loop-i
invariant-loop-i l =
    with_locals (locals_of l.locals) (drop l.i l.names) (inferred_types (map list_value (drop l.i l.values))) ≡ with_locals (locals_of l.initial.locals) l.names
    (inferred_types (map list_value l.values))
