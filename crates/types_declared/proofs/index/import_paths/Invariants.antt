-- The invariants of the loops of `pkg::import_paths`.
use Rattle.types_declared.specs.PackageView.{package_of, ArePaths}
use Rattle.types_declared.proofs.index.import_paths.Given as goal

abbrev pub invariant-loop-d : goal.invariant-loop-d
invariant-loop-d l = ArePaths (package_of l.pkg) l.d l.paths.items
