-- The answers to the goals of `paying::pay`.
use Rattle.std.proofs.lemmas.Result.{on_ok_weaker}
use Rattle.serde_json.specs.View.{view}
use Rattle.lsp_message.specs.Calls.{viewed}
use Rattle.lsp_session.proofs.Paid.{heed_paid, refusal_paid, stop_paid}
use Rattle.lsp_session.proofs.paying.pay.Goals as goal

pub returns-in-Refusal : goal.returns-in-Refusal
returns-in-Refusal g c =
    rw c.in-Refusal.is (on_ok_weaker c.refuse.result
    (refusal_paid g.E.EditorService.starts g.E.EditorService.answers g.E.EditorService.heeds (viewed c.in-Refusal.id) c.in-Refusal.code
    (g.W.Write.contents c.args.out.now) (g.W.Write.contents c.refuse.new.out) (c.args.progress.now, c.args.service.now))
    c.refuse.ensures)

pub returns-in-Stop : goal.returns-in-Stop
returns-in-Stop g c =
    rw c.in-Stop.is (on_ok_weaker c.answer_stop.result
    (stop_paid g.E.EditorService.starts g.E.EditorService.answers g.E.EditorService.heeds (view c.in-Stop.id.now) (g.W.Write.contents c.args.out.now)
    (g.W.Write.contents c.answer_stop.new.out) c.args.progress.now c.answer_stop.new.progress c.args.service.now c.answer_stop.ensures.progress)
    c.answer_stop.ensures.written)

pub returns-in-Heed : goal.returns-in-Heed
returns-in-Heed g c =
    rw c.in-Heed.is (on_ok_weaker c.heed_told.result
    (heed_paid g.E.EditorService.starts g.E.EditorService.answers g.E.EditorService.heeds c.in-Heed.method.now (viewed c.in-Heed.params)
    (g.W.Write.contents c.args.out.now) (g.W.Write.contents c.heed_told.new.out) c.args.progress.now c.args.service.now c.heed_told.new.service)
    c.heed_told.ensures)
