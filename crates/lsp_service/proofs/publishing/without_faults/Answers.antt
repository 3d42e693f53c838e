-- The answers to the goals of `publishing::without_faults`.
use Rattle.std.proofs.Common.{ap, string_bytes}
use Rattle.serde_json.specs.Data.{no_items}
use Rattle.serde_json.specs.View.{items_view}
use Rattle.lsp_editor.proofs.Keeping.{same_publication}
use Rattle.lsp_editor.specs.Publications.{publication_view}
use Rattle.lsp_service.proofs.publishing.without_faults.Goals as goal

pub returns : goal.returns
returns c =
    let published = c.args.published.now in
    let told = publication_view (record { name = c.in_ok-name.name; published = c.in_ok-published.published; faults = c.new-faults.result }) in
    same_publication told c.args.name.now (string_bytes published.uri) published.version no_items c.in_ok-name.ensures.ok
    c.in_ok-published.ensures.0 c.in_ok-published.ensures.1 c.in_ok-published.ensures.2 (ap items_view c.new-faults.ensures.items)
