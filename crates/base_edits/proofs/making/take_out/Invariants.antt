-- What taking out the rest leaves.
use Rattle.std.proofs.Common.{◌≡◌, drop}
use Rattle.base_edits.specs.Made.{without_files}
use Rattle.base_edits.proofs.making.take_out.Given as goal

abbrev pub invariant-loop-change : goal.invariant-loop-change
invariant-loop-change l = without_files (drop l.change-index l.changed) l.files ≡ without_files l.changed l.fn.files
