-- The invariants of the loops of `taken::takes_path`.
use Rattle.std.proofs.Common.{◌≡◌, ◌==◌, ◌≤◌, length}
use Rattle.std.specs.List.{position_or_len}
use Rattle.lsp_editor.specs.Taken.{takes_path}
use Rattle.lsp_editor.proofs.taken.takes_path.Given as goal

-- all depends on what is left, and its first part ends at `end`
abbrev pub invariant-folders : goal.invariant-folders
invariant-folders l = record {
  same : takes_path l.path ≡ takes_path l.rest;
  ends : l.end ≡ position_or_len (λ byte. byte == 47) l.rest;
  within : l.end ≤ length l.rest;
  short : length l.rest ≤ length l.path;
}

abbrev pub decreases-folders : goal.decreases-folders
decreases-folders l = length l.rest
