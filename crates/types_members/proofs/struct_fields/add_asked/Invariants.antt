-- The invariants of the loops of `struct_fields::add_asked`.
use Rattle.std.proofs.Common.{take}
use Rattle.std.specs.List.{flat_map}
use Rattle.types_declared.specs.Appending.{Appends}
use Rattle.types_members.specs.FieldsView.{field_of}
use Rattle.types_members.proofs.FieldParts.{asked_part}
use Rattle.types_members.proofs.struct_fields.add_asked.Given as goal

abbrev pub invariant-loop-item : goal.invariant-loop-item
invariant-loop-item l = Appends field_of l.initial.found.items l.found.items (flat_map (asked_part l.definition l.file) (take l.item-index l.methods))
