-- The invariants of the loops of `exports::numbers`.
use Rattle.types_declared.specs.PackageView.{package_of}
use Rattle.refs_binding.specs.Exports.{number_named, ExportNamesBelow}
use Rattle.refs_binding.proofs.exports.numbers.Given as goal

abbrev pub invariant-loop-d : goal.invariant-loop-d
invariant-loop-d l = ExportNamesBelow (package_of l.unit) l.d (number_named l.numbers)
