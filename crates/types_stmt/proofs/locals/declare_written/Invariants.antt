-- The invariants of the loops of `locals::declare_written`.
use Rattle.std.proofs.Common.{◌≡◌, drop, option_map}
use Rattle.go_ast.specs.View.{list_view, ident_view}
use Rattle.types_expr.specs.View.{type_of}
use Rattle.types_expr.specs.Found.{locals_of}
use Rattle.types_stmt.specs.Simple.{written_locals}
use Rattle.types_stmt.proofs.locals.declare_written.Given as goal

abbrev pub invariant-loop-item : goal.invariant-loop-item
invariant-loop-item l =
    written_locals (locals_of l.locals) (list_view ident_view (drop l.item-index l.idents)) (option_map type_of l.own) ≡ written_locals
    (locals_of l.initial.locals) (list_view ident_view l.idents) (option_map type_of l.own)
