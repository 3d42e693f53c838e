-- The answers to the goals of `publishing::tell_if_closed`.
use Rattle.std.proofs.Common.{◌≡◌, Option, None, option_map, refl, subst}
use Rattle.std.specs.Prelude.{IfOk}
use Rattle.lsp_documents.specs.declared.documents.Document.{Document}
use Rattle.lsp_editor.specs.Publications.{PublicationView, publication_view, published_view}
use Rattle.lsp_editor.specs.declared.publications.Publication.{Publication}
use Rattle.lsp_service.specs.Publishing.{told_closed}
use Rattle.lsp_service.proofs.publishing.tell_if_closed.Goals as goal

pub returns-in-Some : goal.returns-in-Some
returns-in-Some c =
    let none : Option PublicationView = None in
    subst (λ (document : Option Document). none ≡ told_closed c.args.editor.now document c.args.name.now (published_view c.args.published.now))
    c.in-Some.ensures refl

pub returns-in-None : goal.returns-in-None
returns-in-None c =
    subst (λ (document : Option Document). IfOk c.tell_cleared.result (λ (told : Option Publication). option_map publication_view told
    ≡ told_closed c.args.editor.now document c.args.name.now (published_view c.args.published.now))) c.in-None.ensures c.tell_cleared.ensures
