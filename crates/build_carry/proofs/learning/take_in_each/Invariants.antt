-- What is known is right, and there is a place for each package.
use Rattle.std.proofs.Common.{◌≤◌, length}
use Rattle.base_files.specs.Packages.{package_paths}
use Rattle.workspace_check.specs.Found.{KnowsVerdicts}
use Rattle.build_carry.proofs.learning.take_in_each.Given as goal

abbrev pub invariant-loop-verdict : goal.invariant-loop-verdict
invariant-loop-verdict l = record {
  room : length (package_paths l.files) ≤ length l.known.verdicts.items;
  known : KnowsVerdicts l.files l.known;
}
