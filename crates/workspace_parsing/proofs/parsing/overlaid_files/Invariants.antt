-- With the files that are left set too, these are all.
use Rattle.std.proofs.Common.{◌≡◌}
use Rattle.std.specs.FinMap as map
use Rattle.base_edits.specs.Made.{with_files}
use Rattle.workspace_parsing.proofs.parsing.overlaid_files.Given as goal

abbrev pub invariant-loop-path : goal.invariant-loop-path
invariant-loop-path l = with_files l.path-iterator l.files ≡ with_files (map.entries l.above) l.below
