-- The invariants of the loops of `publishing::tell_documents`.
use Rattle.std.proofs.Common.{map}
use Rattle.lsp_editor.specs.Publications.{publication_view}
use Rattle.lsp_told.proofs.OneMore.{LeftOf}
use Rattle.lsp_service.specs.Publishing.{IsToldAt}
use Rattle.lsp_service.proofs.publishing.tell_documents.Given as goal

-- what is told of the documents so far
abbrev pub invariant-loop-name : goal.invariant-loop-name
invariant-loop-name l =
    LeftOf (IsToldAt l.editor l.found) l.editor.documents.entries.entries l.name-iterator (map publication_view l.told.items)
