-- The answers to the goals of `frames::take_body`.
use Rattle.std.proofs.Common.{inl, inr}
use Rattle.std.proofs.lemmas.Result.{IfOk-weaker}
use Rattle.serde_json.specs.View.{view}
use Rattle.lsp_message.specs.Stages.{refusal}
use Rattle.std.specs.Prelude.{None}
use Rattle.lsp_session.specs.Turns.{TakesBody, TakesDebt, TakesJson, unread_code}
use Rattle.lsp_session.proofs.frames.take_body.Goals as goal

pub returns-in-Ok : goal.returns-in-Ok
returns-in-Ok g c =
    let starts = g.E.EditorService.starts in
    let answers = g.E.EditorService.answers in
    let heeds = g.E.EditorService.heeds in
    let held = g.W.Write.contents c.args.out.now in
    let holds = g.W.Write.contents c.take_value.new.out in
    IfOk-weaker c.take_value.result (TakesJson starts answers heeds (view c.in-Ok.value) held holds (c.args.progress.now, c.args.service.now)
    (c.take_value.new.progress, c.take_value.new.service))
    (TakesBody starts answers heeds c.args.body.now held holds (c.args.progress.now, c.args.service.now)
    (c.take_value.new.progress, c.take_value.new.service))
    (λ turn h. inl (view c.in-Ok.value, c.in-Ok.ensures.0, c.in-Ok.ensures.1, h)) c.take_value.ensures

pub returns-in-Err : goal.returns-in-Err
returns-in-Err g c =
    let starts = g.E.EditorService.starts in
    let answers = g.E.EditorService.answers in
    let heeds = g.E.EditorService.heeds in
    let held = g.W.Write.contents c.args.out.now in
    let holds = g.W.Write.contents c.refuse_frame.new.out in
    IfOk-weaker c.refuse_frame.result (TakesDebt starts answers heeds (refusal None (unread_code c.in-Err.fault)) held holds
    (c.args.progress.now, c.args.service.now) (c.refuse_frame.new.progress, c.refuse_frame.new.service))
    (TakesBody starts answers heeds c.args.body.now held holds
    (c.args.progress.now, c.args.service.now) (c.refuse_frame.new.progress, c.refuse_frame.new.service))
    (λ turn h. inr (c.in-Err.fault, c.in-Err.ensures, h)) (rw c.unread_code.ensures at c.refuse_frame.ensures)
