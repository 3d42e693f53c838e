-- The change is one of the view's files, which are seen.
use Rattle.server_commands.proofs.Based.{body_based}
use Rattle.server_commands.proofs.acting.put.Goals as goal

pub commit-requires : goal.commit-requires
commit-requires g c =
    body_based (g.D.Desk.sees c.args.desk.now) c.args.view.now c.requires c.as_str.result.now c.args.body c.plan_body-planned.result
    c.plan_body-planned.ensures
