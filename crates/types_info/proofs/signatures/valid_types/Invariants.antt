-- The invariants of the loops of `signatures::valid_types`.
use Rattle.std.proofs.Common.{take, map}
use Rattle.types_expr.specs.View.{type_of}
use Rattle.types_declared.specs.PackageView.{package_of}
use Rattle.types_declared.specs.MeaningOf.{AreTypesOf}
use Rattle.types_info.specs.SignatureView.{tree_of}
use Rattle.types_info.proofs.signatures.valid_types.Given as goal

abbrev pub invariant-loop-one : goal.invariant-loop-one
invariant-loop-one l = AreTypesOf (package_of l.pkg) l.file (map tree_of (take l.one-index l.written)) (map type_of l.types.items)
