-- The invariants of the loops of `names::add_field`.
use Rattle.std.proofs.Common.{◌≡◌, ◌≤◌, ◌-◌, ◌++◌, drop, length}
use Rattle.go_ast.specs.View.{list_view}
use Rattle.go_ast.specs.FileView.{same_index}
use Rattle.build_object.specs.Names.{positions_from}
use Rattle.build_object.proofs.names.add_field.Given as goal

abbrev pub invariant-loop-name : goal.invariant-loop-name
invariant-loop-name l = record {
  within : l.begin ≤ length l.positions.items;
  rest : l.positions.items ++ positions_from (length l.positions.items - l.begin) (list_view same_index (drop l._name-index l._name-items))
      ≡ l.initial.positions.items ++ positions_from (length l.initial.positions.items - l.begin) (list_view same_index l._name-items);
}
