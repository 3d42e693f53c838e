-- What was found is right of the view's files, which are seen.
use Rattle.std.proofs.Common.{sym, subst}
use Rattle.base_files.specs.Workspace.{Workspace}
use Rattle.workspace_check.specs.Found.{KnowsVerdicts}
use Rattle.server_commands.proofs.acting.learn.Goals as goal

pub learn-requires : goal.learn-requires
learn-requires g c = record {
  seen = subst (λ (w : Workspace). g.D.Desk.sees c.args.desk.now w) (sym c.files.ensures) c.requires.seen;
  known = subst (λ (w : Workspace). KnowsVerdicts w c.args.found.known) (sym c.files.ensures) c.requires.found.verdicts;
}
