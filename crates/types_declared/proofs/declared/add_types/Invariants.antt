-- The invariants of the loops of `declared::add_types`.
use Rattle.std.proofs.Common.{take}
use Rattle.std.specs.List.{flat_map}
use Rattle.types_declared.specs.Appending.{Appends}
use Rattle.types_declared.specs.DeclaredView.{type_of}
use Rattle.types_declared.proofs.DeclaredParts.{type_part}
use Rattle.types_declared.proofs.declared.add_types.Given as goal

abbrev pub invariant-loop-item : goal.invariant-loop-item
invariant-loop-item l = Appends type_of l.initial.found.items l.found.items (flat_map (type_part l.file) (take l.item-index l.item-items))
