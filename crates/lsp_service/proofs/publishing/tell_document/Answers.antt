-- The answers to the goals of `publishing::tell_document`.
use Rattle.std.proofs.Common.{ℕ, ◌∙◌, IfOk, List, Option, Some, ap, option_map, subst, sym}
use Rattle.lsp_documents.specs.Changes.{text_made}
use Rattle.lsp_editor.specs.Publications.{publication_view}
use Rattle.lsp_editor.specs.declared.publications.Publication.{Publication}
use Rattle.lsp_service.specs.Publishing.{IsToldOpen}
use Rattle.lsp_service.proofs.publishing.tell_document.Goals as goal

pub returns-in-Some : goal.returns-in-Some
returns-in-Some c =
    let opened = c.args.opened in
    subst (λ (text : Option (List ℕ)). IfOk c.tell_text.result (λ (told : Option Publication). IsToldOpen c.args.editor.now c.args.found.now
    opened.name.now opened.document.now text (option_map publication_view told)))
    (ap Some c.as_slice.ensures.value ∙ sym (ap text_made c.in-Some.is)) c.tell_text.ensures
