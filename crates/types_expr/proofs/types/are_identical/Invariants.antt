-- The lists have identical types exactly where the rest of them has.
use Rattle.std.specs.Prelude.{◌≡◌, map}
use Rattle.std.proofs.Common.{drop}
use Rattle.types_expr.specs.Types.{identical_types}
use Rattle.types_expr.specs.View.{type_of}
use Rattle.types_expr.proofs.types.are_identical.Given as goal

abbrev pub invariant-loop-i : goal.invariant-loop-i
invariant-loop-i l = identical_types (map type_of (drop l.i l.one)) (map type_of (drop l.i l.other)) ≡ identical_types (map type_of l.one) (map type_of l.other)
