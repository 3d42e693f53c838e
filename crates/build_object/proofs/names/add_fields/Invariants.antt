-- The invariants of the loops of `names::add_fields`.
use Rattle.std.proofs.Common.{◌≡◌, ◌≤◌, ◌-◌, ◌++◌, drop, length}
use Rattle.build_object.specs.Names.{positions_from}
use Rattle.build_object.proofs.NameParts.{struct_names}
use Rattle.build_object.proofs.names.add_fields.Given as goal

abbrev pub invariant-loop-field : goal.invariant-loop-field
invariant-loop-field l = record {
  within : l.begin ≤ length l.positions.items;
  rest : l.positions.items ++ positions_from (length l.positions.items - l.begin) (struct_names (drop l.field-index l.fields))
      ≡ l.initial.positions.items ++ positions_from (length l.initial.positions.items - l.begin) (struct_names l.fields);
}
