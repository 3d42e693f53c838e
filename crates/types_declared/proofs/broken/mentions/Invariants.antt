-- The invariants of the loops of `broken::mentions`.
use Rattle.types_declared.specs.PackageView.{package_of}
use Rattle.types_declared.proofs.Breaking.{MentionsBelow}
use Rattle.types_declared.proofs.broken.mentions.Given as goal

abbrev pub invariant-loop-rank : goal.invariant-loop-rank
invariant-loop-rank l = MentionsBelow (package_of l.pkg) l.links.items l.rank
