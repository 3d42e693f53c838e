-- The invariants of the loops of `locals::declare_broken`.
use Rattle.std.proofs.Common.{◌≡◌, drop, []}
use Rattle.types_expr.specs.Found.{locals_of}
use Rattle.types_stmt.specs.Sides.{with_locals}
use Rattle.types_stmt.proofs.locals.declare_broken.Given as goal

abbrev pub invariant-loop-name : goal.invariant-loop-name
invariant-loop-name l = with_locals (locals_of l.locals) (drop l.name-index l.names) [] ≡ with_locals (locals_of l.initial.locals) l.names []
