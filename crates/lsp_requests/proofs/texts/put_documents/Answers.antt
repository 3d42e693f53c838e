-- The answers to the goals of `texts::put_documents`.
use Rattle.std.proofs.Common.{refl, subst}
use Rattle.history_machine.specs.declared.event.Reply.TheVariants.{Looked, Refused}
use Rattle.lsp_requests.specs.Texts.{RunsDocuments}
use Rattle.lsp_requests.proofs.texts.put_documents.Goals as goal

pub returns-in-Ok : goal.returns-in-Ok
returns-in-Ok g c = (
  Looked c.in-Ok.view,
  c.look.new.self,
  c.in-Ok.ensures.step,
  subst (λ files. RunsDocuments g.D.Desk.steps c.look.new.self files c.args.documents.now c.run_documents.result c.run_documents.new.desk)
      c.files_of.ensures c.run_documents.ensures,
)

pub returns-in-Err : goal.returns-in-Err
returns-in-Err g c = (Refused c.in-Err.refusal, c.look.new.self, c.in-Err.ensures.step, (refl, refl))
