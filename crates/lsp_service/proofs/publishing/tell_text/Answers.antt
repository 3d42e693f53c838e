-- The answers to the goals of `publishing::tell_text`.
use Rattle.std.proofs.Common.{◌∙◌, ◌≡◌, Option, Some, ap, option_map, string_bytes}
use Rattle.std.proofs.lemmas.Result.{IfOk-weaker}
use Rattle.serde_json.specs.Data.{Items}
use Rattle.serde_json.specs.View.{items_view}
use Rattle.serde_json.specs.Written.{items_have_float}
use Rattle.lsp_editor.specs.Publications.{publication_of, publication_view}
use Rattle.lsp_editor.specs.declared.publications.Publication.{Publication}
use Rattle.lsp_service.proofs.Telling.{float_free}
use Rattle.lsp_service.specs.Publishing.{IsToldOpen, told_unless}
use Rattle.lsp_service.proofs.publishing.tell_text.Goals as goal

pub unless_told-requires : goal.unless_told-requires
unless_told-requires c =
    ap items_have_float c.in_ok-faults.ensures ∙ float_free c.telling.result c.args.opened.name.now c.args.text.now c.args.found.now

pub returns : goal.returns
returns c =
    let editor = c.args.editor.now in
    let name = c.args.opened.name.now in
    let document = c.args.opened.document.now in
    let told_with = λ (faults : Items). told_unless editor (publication_of name (string_bytes document.uri) document.version faults) in
    IfOk-weaker c.unless_told.result
    (λ (told : Option Publication). option_map publication_view told ≡ told_with (items_view c.in_ok-faults.faults.items))
    (λ (told : Option Publication). IsToldOpen editor c.args.found.now name document (Some c.args.text.now) (option_map publication_view told))
    (λ told is. (c.telling.result, c.telling.ensures, is ∙ ap told_with c.in_ok-faults.ensures)) c.unless_told.ensures
