-- The answers to the goals of `publishing::publication_of`.
use Rattle.std.proofs.Common.{◌∙◌, ap, refl, string_bytes}
use Rattle.std.specs.Prelude.{String}
use Rattle.std.specs.declared.alloc.Global.{Global}
use Rattle.serde_json.specs.View.{items_view}
use Rattle.lsp_editor.proofs.Keeping.{same_publication}
use Rattle.lsp_editor.specs.Publications.{publication_view}
use Rattle.lsp_service.proofs.publishing.publication_of.Goals as goal

pub returns : goal.returns
returns c =
    let document = c.args.opened.document.now in
    let told = publication_view (record { name = c.in_ok-name.name; published = c.in_ok-published.published; faults = c.args.faults }) in
    same_publication told c.args.opened.name.now (string_bytes document.uri) document.version (items_view c.args.faults.items)
    c.in_ok-name.ensures.ok c.in_ok-published.ensures.0 c.in_ok-published.ensures.1
    (ap (λ (text : String Global). string_bytes text) c.in_ok-published.ensures.2 ∙ c.requires) refl
