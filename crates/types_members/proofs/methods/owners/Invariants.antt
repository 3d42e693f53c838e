-- The invariants of the loops of `methods::owners`.
use Rattle.types_declared.specs.PackageView.{package_of}
use Rattle.types_members.proofs.Owning.{OwnersBelow}
use Rattle.types_members.proofs.methods.owners.Given as goal

abbrev pub invariant-loop-rank : goal.invariant-loop-rank
invariant-loop-rank l = OwnersBelow (package_of l.pkg) l.owners.items l.rank
