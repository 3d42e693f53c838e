-- The invariants of the loops of `definitions::add_methods`.
use Rattle.std.proofs.Common.{length}
use Rattle.types_declared.specs.Definitions.{package_fields}
use Rattle.types_declared.specs.PackageView.{package_of}
use Rattle.types_check.specs.Building.{HaveMembersBelow}
use Rattle.types_check.proofs.definitions.add_methods.Given as goal

abbrev pub invariant-loop-rank : goal.invariant-loop-rank
invariant-loop-rank l = HaveMembersBelow (package_of l.of.pkg) (length (package_fields (package_of l.of.pkg))) l.rank l.definitions.items
