-- The invariants of the loops of `locals::all_named`.
use Rattle.std.proofs.Common.{◌≡◌, take}
use Rattle.go_ast.specs.View.{list_view, ident_view}
use Rattle.types_stmt.specs.Sides.{all_named}
use Rattle.types_stmt.proofs.locals.all_named.Given as goal

abbrev pub invariant-loop-item : goal.invariant-loop-item
invariant-loop-item l = l.names.items ≡ all_named (list_view ident_view (take l.item-index l.idents))
