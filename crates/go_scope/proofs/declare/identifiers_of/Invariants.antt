-- The invariants of the loops of `declare::identifiers_of`.
use Rattle.std.proofs.Common.{take, map}
use Rattle.go_scope.specs.FileSites.{files_sites}
use Rattle.go_scope.specs.IdentifierViews.{AddsTo}
use Rattle.go_scope.specs.SpelledFiles.{spelled_file}
use Rattle.go_scope.specs.Trees.{AreNumbered}
use Rattle.go_scope.proofs.declare.identifiers_of.Given as goal

abbrev pub invariant-loop-rank : goal.invariant-loop-rank
invariant-loop-rank l = record {
  added : AddsTo l.initial.found.items l.found.items (files_sites 0 (map spelled_file (take l.rank l.files)));
  numbered : AreNumbered (map spelled_file (take l.rank l.files));
}
