-- The invariants of the loops of `definitions::add_fields`.
use Rattle.types_declared.specs.PackageView.{package_of}
use Rattle.types_check.specs.Building.{HaveMembersBelow}
use Rattle.types_check.proofs.definitions.add_fields.Given as goal

abbrev pub invariant-loop-rank : goal.invariant-loop-rank
invariant-loop-rank l = HaveMembersBelow (package_of l.of.pkg) l.rank 0 l.definitions.items
