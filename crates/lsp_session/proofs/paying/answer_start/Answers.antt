-- The answers to the goals of `paying::answer_start`.
use Rattle.std.proofs.lemmas.Result.{on_ok_weaker}
use Rattle.serde_json.specs.View.{view}
use Rattle.lsp_message.specs.Calls.{viewed}
use Rattle.lsp_session.proofs.Paid.{start_paid}
use Rattle.lsp_session.proofs.paying.answer_start.Goals as goal

pub returns : goal.returns
returns g c =
    on_ok_weaker c.send_result.result
    (start_paid g.E.EditorService.starts g.E.EditorService.answers g.E.EditorService.heeds (view c.args.asked.0.now) (viewed c.args.asked.1)
    (view c.in_ok-outcome.outcome) (g.W.Write.contents c.args.out.now) (g.W.Write.contents c.send_result.new.out) c.args.progress.now
    c.args.service.now c.start.new.self c.in_ok-outcome.ensures)
    c.send_result.ensures
