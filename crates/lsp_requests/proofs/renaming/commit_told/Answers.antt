-- The answers to the goals of `renaming::commit_told`.
use Rattle.std.proofs.Common.{inr, subst}
use Rattle.history_machine.specs.declared.event.Event.TheVariants.{Commit}
use Rattle.server_commands.specs.Act.{Sends}
use Rattle.lsp_requests.proofs.renaming.commit_told.Goals as goal

pub returns : goal.returns
returns g c = inr (
  c.commit_planned-response.result,
  subst (λ number. Sends g.D.Desk.steps c.args.desk.now (Commit number c.args.planned.change) c.commit_planned-response.result
      c.commit_planned-response.new.desk) c.number.ensures c.commit_planned-response.ensures,
  (c.in_ok-edits.edits, c.in_ok-edits.ensures, c.told_if_done.ensures),
)
