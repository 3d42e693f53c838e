-- The invariants of the loops of `objects::push_files`.
use Rattle.types_info.specs.MeaningsView.{AreMeanings}
use Rattle.types_declared.specs.PackageView.{package_of}
use Rattle.build_object.specs.ObjectSteps.{PrintsFiles}
use Rattle.build_object.proofs.objects.push_files.Given as goal

abbrev pub invariant-loop-file : goal.invariant-loop-file
invariant-loop-file l = record {
  puts : PrintsFiles (package_of l.origin.unit) l.file l.origin.members.now l.origin.enterings.now l.origin.packages.now l.origin.names.now l.others
      l.initial.text.items l.text.items;
  kept : AreMeanings (package_of l.origin.unit) l.bounds.list.items l.bounds.of.items;
}
