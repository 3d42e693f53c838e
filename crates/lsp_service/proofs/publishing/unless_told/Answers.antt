-- The answers to the goals of `publishing::unless_told`.
use Rattle.std.proofs.Common.{◌∙◌, List, ap, string_bytes, true}
use Rattle.serde_json.specs.View.{items_view}
use Rattle.serde_json.specs.Written.{items_have_float}
use Rattle.serde_json.specs.declared.value.Value.{Value}
use Rattle.lsp_editor.specs.Publications.{compact_lines, publication_of}
use Rattle.lsp_service.proofs.Telling.{by_lines}
use Rattle.lsp_service.proofs.publishing.unless_told.Goals as goal

pub lines_of-requires : goal.lines_of-requires
lines_of-requires c = ap (λ (faults : List Value). items_have_float (items_view faults)) c.as_slice.ensures.value ∙ c.requires

pub publication_of-requires : goal.publication_of-requires
publication_of-requires c =
    c.in_ok-lines.ensures ∙ ap (λ (faults : List Value). compact_lines (items_view faults)) c.as_slice.ensures.value

pub returns-then-is_told : goal.returns-then-is_told
returns-then-is_told c =
    let document = c.args.opened.document.now in
    by_lines c.args.editor.now
    (publication_of c.args.opened.name.now (string_bytes document.uri) document.version (items_view c.args.faults.items)) c.as_str.result.now
    c.is_told.result true c.is_told.ensures
    (c.as_str.ensures.value
    ∙ c.in_ok-lines.ensures
    ∙ ap (λ (faults : List Value). compact_lines (items_view faults)) c.as_slice.ensures.value)
    c.if-is_told.true
