-- The invariants of the loops of `edits::documents_value`.
use Rattle.std.proofs.Common.{map, take}
use Rattle.serde_json.specs.View.{view}
use Rattle.lsp_edits.specs.Edits.{AreDocumentEdits}
use Rattle.lsp_edits.proofs.edits.documents_value.Given as goal

-- the documents of the changes so far
abbrev pub invariant-loop-change : goal.invariant-loop-change
invariant-loop-change l = AreDocumentEdits l.telling l.files (take l.change-index l.changes) (map view l.documents.items)
