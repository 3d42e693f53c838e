-- The invariants of the loops of `underlying::fill`.
use Rattle.types_declared.specs.PackageView.{package_of}
use Rattle.types_members.proofs.Filling.{AreFilled}
use Rattle.types_members.proofs.underlying.fill.Given as goal

abbrev pub invariant-loop-rank : goal.invariant-loop-rank
invariant-loop-rank l = AreFilled (package_of l.pkg) l.order l.rank-index l.found.items
