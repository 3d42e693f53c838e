-- The change is one of files that are seen.
use Rattle.std.proofs.lemmas.Result.{IfOk-at_ok}
use Rattle.workspace_snapshot.specs.declared.change.Change.{Change}
use Rattle.server_commands.proofs.acting.commit.Goals as goal

pub send_change-requires : goal.send_change-requires
send_change-requires g c = IfOk-at_ok (λ (x : Change). g.D.Desk.sees c.args.desk.now x.base) c.in-Ok.is c.requires
