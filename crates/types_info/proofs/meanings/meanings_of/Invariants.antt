-- The invariants of the loops of `bounds::meanings_of`.
use Rattle.types_info.specs.MeaningsView.{AreMeaningsBelow}
use Rattle.types_declared.specs.PackageView.{package_of}
use Rattle.types_info.proofs.meanings.meanings_of.Given as goal

abbrev pub invariant-loop-d : goal.invariant-loop-d
invariant-loop-d l = AreMeaningsBelow (package_of l.pkg) l.d l.bounds.list.items l.bounds.of.items
