-- The invariants of the loops of `signatures::add_param`.
use Rattle.std.proofs.Common.{take}
use Rattle.std.specs.List.{flat_map}
use Rattle.types_declared.specs.Appending.{Appends}
use Rattle.types_info.specs.SignatureView.{tree_of}
use Rattle.types_info.proofs.SignatureParts.{ident_part}
use Rattle.types_info.proofs.signatures.add_param.Given as goal

abbrev pub invariant-loop-name : goal.invariant-loop-name
invariant-loop-name l = Appends tree_of l.initial.found.items l.found.items (flat_map (ident_part l.param.param_type) (take l._name-index l._name-items))
