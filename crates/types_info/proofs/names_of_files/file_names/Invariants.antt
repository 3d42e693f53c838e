-- The invariants of the loops of `names::file_names`.
use Rattle.types_info.specs.MeaningsView.{AreMeanings}
use Rattle.types_declared.specs.PackageView.{package_of}
use Rattle.types_info.proofs.NameParts.{AreNamesBelow}
use Rattle.types_info.proofs.names_of_files.file_names.Given as goal

abbrev pub invariant-loop-token : goal.invariant-loop-token
invariant-loop-token l = record {
  named : AreNamesBelow (package_of l.pkg) l.file l.token l.bounds.list.items l.names.items;
  kept : AreMeanings (package_of l.pkg) l.bounds.list.items l.bounds.of.items;
}
