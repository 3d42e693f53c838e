-- The invariants of the loops of `struct_fields::add_names`.
use Rattle.std.proofs.Common.{take}
use Rattle.std.specs.List.{flat_map}
use Rattle.types_declared.specs.Appending.{Appends}
use Rattle.types_members.specs.FieldsView.{field_of}
use Rattle.types_members.proofs.FieldParts.{name_part}
use Rattle.types_members.proofs.struct_fields.add_names.Given as goal

abbrev pub invariant-loop-name : goal.invariant-loop-name
invariant-loop-name l = Appends field_of l.initial.found.items l.found.items (flat_map (name_part l.definition l.file l.field) (take l.name-index l.name-items))
