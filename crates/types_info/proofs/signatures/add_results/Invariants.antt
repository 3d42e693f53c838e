-- The invariants of the loops of `signatures::add_results`.
use Rattle.std.proofs.Common.{take}
use Rattle.std.specs.List.{flat_map}
use Rattle.types_declared.specs.Appending.{Appends}
use Rattle.types_info.specs.SignatureView.{tree_of}
use Rattle.types_info.proofs.SignatureParts.{type_part}
use Rattle.types_info.proofs.signatures.add_results.Given as goal

abbrev pub invariant-loop-item : goal.invariant-loop-item
invariant-loop-item l = Appends tree_of l.initial.found.items l.found.items (flat_map type_part (take l.item-index l.item-items))
