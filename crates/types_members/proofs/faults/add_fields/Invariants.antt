-- The invariants of the loops of `members::add_fields`.
use Rattle.types_declared.specs.Listing.{AddsFaults, IsFaultBelow}
use Rattle.types_declared.specs.PackageView.{package_of}
use Rattle.types_members.proofs.Displacing.{IsFieldFault}
use Rattle.types_members.proofs.faults.add_fields.Given as goal

abbrev pub invariant-loop-rank : goal.invariant-loop-rank
invariant-loop-rank l = AddsFaults l.initial.found.items l.found.items (IsFaultBelow (IsFieldFault (package_of l.pkg)) l.rank)
