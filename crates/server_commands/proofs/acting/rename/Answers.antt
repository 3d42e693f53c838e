-- The change is one of the view's files, which are seen still: planning leaves the desk as it was.
use Rattle.std.proofs.Common.{sym, subst}
use Rattle.server_commands.proofs.Based.{known_rename_based}
use Rattle.server_commands.proofs.acting.rename.Goals as goal

pub commit_rename-requires-clause-seen : goal.commit_rename-requires-clause-seen
commit_rename-requires-clause-seen g c =
    let files = c.args.view.now.snapshot.files in
    known_rename_based (g.D.Desk.sees c.carrying_plan-plan.new.desk) c.args.view.now.snapshot
    (subst (λ d. g.D.Desk.sees d files) (sym c.carrying_plan-plan.ensures.same) c.requires) c.as_str.result.now c.args.at.offset c.as_str-2.result.now
    c.carrying_plan-plan.result.planned c.carrying_plan-plan.ensures.planned
