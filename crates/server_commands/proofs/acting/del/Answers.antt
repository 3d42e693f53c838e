-- The change is one of the view's files, which are seen.
use Rattle.std.proofs.Common.{sym, subst}
use Rattle.workspace_snapshot.specs.declared.snapshot.Snapshot.{Snapshot}
use Rattle.server_commands.proofs.Based.{del_based}
use Rattle.server_commands.proofs.acting.del.Goals as goal

pub commit-requires : goal.commit-requires
commit-requires g c =
    let sees = g.D.Desk.sees c.args.desk.now in
    del_based sees c.get.result.now (subst (λ (s : Snapshot). sees s.files) (sym c.get.ensures) c.requires) c.as_str.result.now c.plan_del-planned.result
    c.plan_del-planned.ensures
