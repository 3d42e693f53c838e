-- The answers to the goals of `service::start`.
use Rattle.std.proofs.Common.{◌≡◌}
use Rattle.std.proofs.lemmas.Result.{IfOk-weaker}
use Rattle.serde_json.specs.View.{view}
use Rattle.serde_json.specs.declared.value.Value.{Value}
use Rattle.lsp_answers.specs.Capabilities.{initialize_result}
use Rattle.lsp_message.specs.Calls.{viewed}
use Rattle.lsp_service.specs.Serving.{Starts}
use Rattle.lsp_service.proofs.service.start.Goals as goal

pub returns : goal.returns
returns g c =
    IfOk-weaker c.initialize_result.result (λ (outcome : Value). view outcome ≡ initialize_result c.catch_up.new.editor.abilities.encoding)
    (λ (outcome : Value). Starts g.D.RequestDesk.takes_disk g.D.RequestDesk.takes_documents (c.args.editor.now, c.args.desk.now)
    (viewed c.args.params) (view outcome) (c.catch_up.new.editor, c.catch_up.new.desk))
    (λ outcome is. (c.note_client.new.editor, c.catch_up.result, c.in_ok-note_client.ensures, c.catch_up.ensures, is)) c.initialize_result.ensures
