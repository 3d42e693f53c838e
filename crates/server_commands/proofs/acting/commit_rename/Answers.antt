-- The change is one of files that are seen, and what is known is right of the change's files.
use Rattle.std.proofs.lemmas.Result.{IfOk-at_ok}
use Rattle.workspace_check.specs.Found.{KnowsVerdicts}
use Rattle.history_book.specs.CurrentUnits.{AreKnownIn}
use Rattle.refactor_preserve.specs.declared.planned.Planned.{Planned}
use Rattle.server_commands.proofs.acting.commit_rename.Goals as goal

pub commit_carrying-requires : goal.commit_carrying-requires
commit_carrying-requires g c = record {
  seen = IfOk-at_ok (λ (p : Planned). g.D.Desk.sees c.args.desk.now p.change.base) c.in-Ok.is c.requires.seen;
  known = IfOk-at_ok (λ (p : Planned). KnowsVerdicts p.change.files p.known) c.in-Ok.is c.requires.known;
  units = IfOk-at_ok (λ (p : Planned). AreKnownIn p.change.files c.args.plan.units) c.in-Ok.is c.requires.units;
}
