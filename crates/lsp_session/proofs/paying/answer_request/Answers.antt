-- The answers to the goals of `paying::answer_request`.
use Rattle.std.specs.Prelude.{option_map}
use Rattle.std.proofs.lemmas.Result.{on_ok_weaker}
use Rattle.serde_json.specs.View.{view}
use Rattle.lsp_message.specs.Calls.{viewed}
use Rattle.lsp_session.specs.Outcomes.{outcome_view}
use Rattle.lsp_session.proofs.Paid.{answer_paid}
use Rattle.lsp_session.proofs.paying.answer_request.Goals as goal

pub returns : goal.returns
returns g c =
    on_ok_weaker c.send_outcome.result
    (answer_paid g.E.EditorService.starts g.E.EditorService.answers g.E.EditorService.heeds (view c.args.id.now) c.args.asked.0.now
    (viewed c.args.asked.1) (option_map view c.in_ok-answered.answered.edit) (outcome_view c.in_ok-answered.answered.outcome)
    (g.W.Write.contents c.args.out.now) (g.W.Write.contents c.ask_for_edit.new.out) (g.W.Write.contents c.send_outcome.new.out)
    c.args.progress.now c.ask_for_edit.new.progress c.args.service.now c.answer.new.self c.in_ok-answered.ensures c.in_ok-ask_for_edit.ensures)
    c.send_outcome.ensures
