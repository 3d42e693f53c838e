-- The answers to the goals of `texts::documents_differ`.
use Rattle.std.proofs.Common.{refl, subst}
use Rattle.history_machine.specs.declared.event.Reply.TheVariants.{Looked, Refused}
use Rattle.lsp_requests.specs.Texts.{FindsOther}
use Rattle.lsp_requests.proofs.texts.documents_differ.Goals as goal

pub returns-in-Ok : goal.returns-in-Ok
returns-in-Ok g c = (
  Looked c.in-Ok.view,
  c.look.new.self,
  c.in-Ok.ensures.step,
  (subst (λ files. FindsOther files c.args.documents.now c.differ_from.result) c.files_of.ensures c.differ_from.ensures, refl),
)

pub returns-in-Err : goal.returns-in-Err
returns-in-Err g c = (Refused c.in-Err.refusal, c.look.new.self, c.in-Err.ensures.step, (refl, refl))
