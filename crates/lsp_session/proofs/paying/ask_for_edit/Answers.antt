-- The answers to the goals of `paying::ask_for_edit`.
use Rattle.std.proofs.lemmas.Result.{on_ok_weaker}
use Rattle.lsp_session.proofs.Paid.{edit_asked, no_edit_asked}
use Rattle.lsp_session.proofs.paying.ask_for_edit.Goals as goal

pub returns-in-Some : goal.returns-in-Some
returns-in-Some g c =
    on_ok_weaker c.ask_to_edit.result
    (λ h. edit_asked c.args.edit c.in-Some.params c.args.progress.now c.ask_to_edit.new.progress (g.W.Write.contents c.args.out.now)
    (g.W.Write.contents c.ask_to_edit.new.out) c.in-Some.is h c.ask_to_edit.ensures.progress)
    c.ask_to_edit.ensures.written

pub returns-in-None : goal.returns-in-None
returns-in-None g c = no_edit_asked c.args.edit c.args.progress.now (g.W.Write.contents c.args.out.now) c.in-None.is
