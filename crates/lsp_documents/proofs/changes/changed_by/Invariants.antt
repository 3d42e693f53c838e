-- The invariants of the loops of `changes::changed_by`.
use Rattle.std.proofs.Common.{take}
use Rattle.lsp_documents.specs.Changes.{ChangesMake, shown_bytes, text_made}
use Rattle.lsp_documents.proofs.changes.changed_by.Given as goal

abbrev pub invariant-loop-change : goal.invariant-loop-change
invariant-loop-change l = ChangesMake l.encoding (shown_bytes l.text) (take l.change-index l.changes) (text_made l.made)
