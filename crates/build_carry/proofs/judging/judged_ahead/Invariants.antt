-- What is known is right, and there is a place for each package.
use Rattle.std.proofs.Common.{◌≤◌, length}
use Rattle.base_files.specs.Packages.{package_paths}
use Rattle.workspace_check.specs.Found.{KnowsVerdicts}
use Rattle.build_carry.proofs.judging.judged_ahead.Given as goal

abbrev pub invariant-loop-number : goal.invariant-loop-number
invariant-loop-number l = record {
  room : length (package_paths l.files) ≤ length l.all.verdicts.items;
  known : KnowsVerdicts l.files l.all;
}
