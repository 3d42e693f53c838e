-- The change is one of files that are seen, and what is known is right of the change's files.
use Rattle.std.proofs.lemmas.Result.{IfOk-at_ok}
use Rattle.workspace_check.specs.Found.{KnowsVerdicts}
use Rattle.refactor_preserve.specs.declared.planned.Planned.{Planned}
use Rattle.server_commands.proofs.acting.commit_known.Goals as goal

pub commit_planned-requires : goal.commit_planned-requires
commit_planned-requires g c = record {
  seen = IfOk-at_ok (λ (p : Planned). g.D.Desk.sees c.args.desk.now p.change.base) c.in-Ok.is c.requires.seen;
  known = IfOk-at_ok (λ (p : Planned). KnowsVerdicts p.change.files p.known) c.in-Ok.is c.requires.known;
}
