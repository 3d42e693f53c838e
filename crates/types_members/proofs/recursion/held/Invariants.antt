-- The invariants of the loops of `recursion::held`.
use Rattle.types_declared.specs.PackageView.{package_of}
use Rattle.types_members.proofs.Holding.{HeldBelow}
use Rattle.types_members.proofs.recursion.held.Given as goal

abbrev pub invariant-loop-rank : goal.invariant-loop-rank
invariant-loop-rank l = HeldBelow (package_of l.pkg) l.links.items l.rank
