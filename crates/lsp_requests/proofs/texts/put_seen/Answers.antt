-- The answers to the goals of `texts::put_seen`.
use Rattle.std.proofs.Common.{Some, subst}
use Rattle.workspace_snapshot.specs.Plan.{PlansPut}
use Rattle.workspace_snapshot.specs.declared.snapshot.Snapshot.{Snapshot}
use Rattle.server_commands.specs.Act.{Commits}
use Rattle.server_commands.proofs.Based.{body_based}
use Rattle.lsp_requests.proofs.texts.put_seen.Goals as goal

pub commit-requires : goal.commit-requires
commit-requires g c =
    body_based (g.D.Desk.sees c.args.desk.now) c.args.view.now c.requires c.args.name.now (Some c.args.text) c.plan_put-planned.result
    (subst (λ (s : Snapshot). PlansPut s c.args.name.now c.args.text c.plan_put-planned.result) c.get.ensures c.plan_put-planned.ensures)

pub returns : goal.returns
returns g c = (
  c.plan_put-planned.result,
  subst (λ (s : Snapshot). PlansPut s c.args.name.now c.args.text c.plan_put-planned.result) c.get.ensures c.plan_put-planned.ensures,
  subst (λ basis. Commits g.D.Desk.steps c.args.desk.now basis c.plan_put-planned.result c.commit.result c.commit.new.desk) c.number.ensures
      c.commit.ensures,
)
