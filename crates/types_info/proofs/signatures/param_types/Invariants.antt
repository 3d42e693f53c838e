-- The invariants of the loops of `signatures::param_types`.
use Rattle.std.proofs.Common.{take}
use Rattle.std.specs.List.{flat_map}
use Rattle.types_declared.specs.Appending.{Appends}
use Rattle.types_info.specs.SignatureView.{tree_of}
use Rattle.types_info.proofs.SignatureParts.{param_part}
use Rattle.types_info.proofs.signatures.param_types.Given as goal

abbrev pub invariant-loop-param : goal.invariant-loop-param
invariant-loop-param l = Appends tree_of l.initial.found.items l.found.items (flat_map param_part (take l.param-index l.params))
