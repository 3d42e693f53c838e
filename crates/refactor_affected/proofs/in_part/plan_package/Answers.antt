-- The package was read.
use Rattle.std.proofs.lemmas.Option.{slice_get_within}
use Rattle.base_files.specs.Packages.{package_paths}
use Rattle.types_declared.specs.PackageView.{package_of}
use Rattle.refs_binding.proofs.PackageReaders.{package_read}
use Rattle.refactor_affected.proofs.in_part.plan_package.Goals as goal

pub of-requires : goal.of-requires
of-requires c = record { in_range = slice_get_within (package_paths c.args.proposal.now.workspace.now.graph) c.args.number _ c.requires.folder }

pub plan_asked-requires-clause-numbered : goal.plan_asked-requires-clause-numbered
plan_asked-requires-clause-numbered c =
    record { in_range = slice_get_within (package_paths c.args.proposal.now.workspace.now.graph) c.args.number _ c.requires.folder }

pub plan_asked-requires-clause-unit : goal.plan_asked-requires-clause-unit
plan_asked-requires-clause-unit c = package_read _ c.in_ok-reader.reader (package_of c.unit.result) c.in_ok-reader.ensures.at c.unit.ensures
