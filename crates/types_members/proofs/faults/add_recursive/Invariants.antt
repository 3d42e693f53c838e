-- The invariants of the loops of `members::add_recursive`.
use Rattle.types_declared.specs.Listing.{AddsFaults, IsFaultBelow}
use Rattle.types_declared.specs.PackageView.{package_of}
use Rattle.types_members.proofs.Displacing.{IsRecursionFault}
use Rattle.types_members.proofs.faults.add_recursive.Given as goal

abbrev pub invariant-loop-rank : goal.invariant-loop-rank
invariant-loop-rank l = AddsFaults l.initial.found.items l.found.items (IsFaultBelow (IsRecursionFault (package_of l.pkg)) l.rank)
