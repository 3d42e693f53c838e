-- The invariants of the loops of `struct_fields::fields_of`.
use Rattle.std.proofs.Common.{take, map}
use Rattle.std.specs.List.{flat_map, enumerate_from}
use Rattle.types_declared.specs.Appending.{Appends}
use Rattle.types_declared.specs.DeclaredView.{type_of}
use Rattle.types_members.specs.FieldsView.{field_of}
use Rattle.types_members.proofs.FieldParts.{ranked_part}
use Rattle.types_members.proofs.struct_fields.fields_of.Given as goal

abbrev pub invariant-loop-rank : goal.invariant-loop-rank
invariant-loop-rank l = Appends field_of l.initial.found.items l.found.items (flat_map ranked_part (take l.rank (enumerate_from 0 (map type_of l.types))))
