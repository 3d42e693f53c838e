-- The answers to the goals of `frames::take_value`.
use Rattle.std.proofs.Common.{◌∙◌, ap, subst}
use Rattle.lsp_message.specs.Stages.{owed_by}
use Rattle.lsp_session.specs.Turns.{TakesDebt}
use Rattle.lsp_session.proofs.frames.take_value.Goals as goal

pub returns : goal.returns
returns g c =
    let owed = c.owed_by-owed.ensures ∙ ap (owed_by c.args.progress.now.stage) c.call_in.ensures in
    subst (λ debt. TakesDebt g.E.EditorService.starts g.E.EditorService.answers g.E.EditorService.heeds debt (g.W.Write.contents c.args.out.now)
    (g.W.Write.contents c.pay.new.out) (c.args.progress.now, c.args.service.now) (c.pay.new.progress, c.pay.new.service) c.turn_of.result) owed
    (c.in_ok-pay.ensures, c.turn_of.ensures)
