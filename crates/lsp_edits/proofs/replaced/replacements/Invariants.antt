-- The invariants of the loops of `replaced::replacements`.
use Rattle.std.proofs.Common.{◌≡◌, ◌++◌}
use Rattle.std.specs.List.{flat_map}
use Rattle.lsp_edits.specs.Replaced.{replaced_text, replaced_texts}
use Rattle.lsp_edits.proofs.replaced.replacements.Given as goal

-- the changes so far, and those of the files that are left
abbrev pub invariant-loop-path : goal.invariant-loop-path
invariant-loop-path l = l.changes.items ++ flat_map (λ e. replaced_text e.0 e.1 l.after) l.path-iterator ≡ replaced_texts l.before l.after
