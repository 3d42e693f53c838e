-- What is learned of the packages that were passed.
use Rattle.std.proofs.Common.{◌≤◌, length}
use Rattle.base_files.specs.Packages.{package_paths}
use Rattle.build_carry.specs.Learned.{LearnsFirst}
use Rattle.build_carry.proofs.learning.with_kept.Given as goal

abbrev pub invariant-loop-number : goal.invariant-loop-number
invariant-loop-number l = record {
  room : length (package_paths l.files) ≤ length l.known.verdicts.items;
  learns : LearnsFirst l.files l.own l.from.judged.now l.from.found.now l.number l.known;
}
