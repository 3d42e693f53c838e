-- The answers to the goals of `texts::del_seen`.
use Rattle.std.proofs.Common.{sym, subst}
use Rattle.workspace_snapshot.specs.Plan.{PlansDel}
use Rattle.workspace_snapshot.specs.declared.snapshot.Snapshot.{Snapshot}
use Rattle.server_commands.specs.Act.{Commits}
use Rattle.server_commands.proofs.Based.{del_based}
use Rattle.lsp_requests.proofs.texts.del_seen.Goals as goal

pub commit-requires : goal.commit-requires
commit-requires g c =
    let sees = g.D.Desk.sees c.args.desk.now in
    del_based sees c.get.result.now (subst (λ (s : Snapshot). sees s.files) (sym c.get.ensures) c.requires) c.args.name.now c.plan_del-planned.result
    c.plan_del-planned.ensures

pub returns : goal.returns
returns g c = (
  c.plan_del-planned.result,
  subst (λ (s : Snapshot). PlansDel s c.args.name.now c.plan_del-planned.result) c.get.ensures c.plan_del-planned.ensures,
  subst (λ basis. Commits g.D.Desk.steps c.args.desk.now basis c.plan_del-planned.result c.commit.result c.commit.new.desk) c.number.ensures
      c.commit.ensures,
)
