-- The invariants of the loops of `declared::add_names`.
use Rattle.std.proofs.Common.{take}
use Rattle.std.specs.List.{flat_map}
use Rattle.types_declared.specs.Appending.{Appends}
use Rattle.types_declared.specs.DeclaredView.{variable_of}
use Rattle.types_declared.proofs.DeclaredParts.{name_part}
use Rattle.types_declared.proofs.declared.add_names.Given as goal

abbrev pub invariant-loop-name : goal.invariant-loop-name
invariant-loop-name l = Appends variable_of l.initial.found.items l.found.items (flat_map (name_part l.file l.spec) (take l.name-index l.name-items))
