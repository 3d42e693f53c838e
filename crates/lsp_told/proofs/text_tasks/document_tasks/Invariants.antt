-- The invariants of the loops of `text_tasks::document_tasks`.
use Rattle.lsp_told.specs.TextTasks.{IsPutAt}
use Rattle.lsp_told.proofs.OneMore.{LeftOf}
use Rattle.lsp_told.proofs.text_tasks.document_tasks.Given as goal

-- the puts of the documents so far
abbrev pub invariant-loop-name : goal.invariant-loop-name
invariant-loop-name l = LeftOf (IsPutAt l.files) l.documents.entries.entries l.name-iterator l.tasks.items
