-- The invariants of the loops of `sources::marks`.
use Rattle.std.specs.Prelude.{Some}
use Rattle.types_declared.specs.PackageView.{package_of}
use Rattle.build_object.specs.TablesView.{IsMarkAt}
use Rattle.build_object.proofs.Marks.{no_mark}
use Rattle.build_object.proofs.Tables.{IsTableBelow}
use Rattle.build_object.proofs.sources.marks.Given as goal

abbrev pub invariant-loop-token : goal.invariant-loop-token
invariant-loop-token l = IsTableBelow (λ token m. IsMarkAt (package_of l.unit) l.file token (Some m)) no_mark l.token l.marks.items
