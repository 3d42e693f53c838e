-- The invariants of the loops of `simple::put_set_names`.
use Rattle.std.proofs.Common.{take}
use Rattle.go_ast.specs.View.{list_view, ident_view}
use Rattle.build_object.specs.LineView.{Puts}
use Rattle.build_object.specs.Statements.{from_last, set_name}
use Rattle.build_object.proofs.simple.put_set_names.Given as goal

abbrev pub invariant-loop-name : goal.invariant-loop-name
invariant-loop-name l = Puts (from_last (set_name l.scope.slots.now.places.items) (list_view ident_view (take l.name-index l.names))) l.initial.code l.code
