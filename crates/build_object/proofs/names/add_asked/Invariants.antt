-- The invariants of the loops of `names::add_asked`.
use Rattle.std.proofs.Common.{◌≡◌, ◌≤◌, ◌-◌, ◌++◌, drop, length}
use Rattle.go_ast.specs.View.{list_view}
use Rattle.go_ast.specs.FileView.{method_view}
use Rattle.build_object.specs.Names.{positions_from}
use Rattle.build_object.proofs.names.add_asked.Given as goal

abbrev pub invariant-loop-method : goal.invariant-loop-method
invariant-loop-method l = record {
  within : l.begin ≤ length l.positions.items;
  rest : l.positions.items ++ positions_from (length l.positions.items - l.begin) (list_view method_view (drop l._method-index l.methods))
      ≡ l.initial.positions.items ++ positions_from (length l.initial.positions.items - l.begin) (list_view method_view l.methods);
}
