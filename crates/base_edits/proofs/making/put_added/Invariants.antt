-- What putting the rest gives.
use Rattle.std.proofs.Common.{◌≡◌, drop}
use Rattle.base_edits.specs.Made.{with_files}
use Rattle.base_edits.proofs.making.put_added.Given as goal

abbrev pub invariant-loop-path : goal.invariant-loop-path
invariant-loop-path l = with_files (drop l.path-index l.added) l.files ≡ with_files l.added l.fn.files
