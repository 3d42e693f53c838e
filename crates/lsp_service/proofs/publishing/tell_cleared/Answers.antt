-- The answers to the goals of `publishing::tell_cleared`.
use Rattle.std.proofs.Common.{[], refl, string_bytes, true}
use Rattle.serde_json.specs.Data.{no_items}
use Rattle.lsp_editor.specs.Publications.{publication_of}
use Rattle.lsp_service.proofs.Telling.{by_lines}
use Rattle.lsp_service.proofs.publishing.tell_cleared.Goals as goal

pub returns-then-is_told : goal.returns-then-is_told
returns-then-is_told c =
    let published = c.args.published.now in
    by_lines c.args.editor.now (publication_of c.args.name.now (string_bytes published.uri) published.version no_items) [] c.is_told.result true
    c.is_told.ensures refl c.if-is_told.true
