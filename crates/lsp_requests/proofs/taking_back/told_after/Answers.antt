-- The answers to the goals of `taking_back::told_after`.
use Rattle.std.proofs.Common.{refl, subst}
use Rattle.history_machine.specs.declared.event.Reply.TheVariants.{Looked, Refused}
use Rattle.lsp_requests.specs.Committing.{TellsBetween}
use Rattle.lsp_requests.proofs.taking_back.told_after.Goals as goal

pub returns-in-Ok : goal.returns-in-Ok
returns-in-Ok g c = (
  Looked c.in-Ok.after,
  c.look.new.self,
  c.in-Ok.ensures.step,
  (
    subst (λ files. TellsBetween c.args.sight.telling c.args.sight.view.now.snapshot.files files c.edits_to.result) c.files_of.ensures
        c.edits_to.ensures,
    refl,
  ),
)

pub returns-in-Err : goal.returns-in-Err
returns-in-Err g c = (Refused c.in-Err.refusal, c.look.new.self, c.in-Err.ensures.step, ((cc), refl))
