-- What is known stays right, with a place for each package.
use Rattle.std.proofs.Common.{◌≤◌, length}
use Rattle.base_files.specs.Packages.{package_paths}
use Rattle.workspace_check.specs.Found.{KnowsVerdicts}
use Rattle.history_book.proofs.learning.with_found.Given as goal

abbrev pub invariant-loop-number : goal.invariant-loop-number
invariant-loop-number l = record {
  room : length (package_paths l.files) ≤ length l.known.verdicts.items;
  known : KnowsVerdicts l.files l.known;
}
