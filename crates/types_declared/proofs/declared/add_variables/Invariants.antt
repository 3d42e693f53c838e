-- The invariants of the loops of `declared::add_variables`.
use Rattle.std.proofs.Common.{take}
use Rattle.std.specs.List.{flat_map}
use Rattle.types_declared.specs.Appending.{Appends}
use Rattle.types_declared.specs.DeclaredView.{variable_of}
use Rattle.types_declared.proofs.DeclaredParts.{spec_part}
use Rattle.types_declared.proofs.declared.add_variables.Given as goal

abbrev pub invariant-loop-item : goal.invariant-loop-item
invariant-loop-item l = Appends variable_of l.initial.found.items l.found.items (flat_map (spec_part l.file) (take l.item-index l.item-items))
