-- The desk knows that the files of an admitted change are current.
use Rattle.std.proofs.Common.{sym, subst}
use Rattle.base_files.specs.Workspace.{Workspace}
use Rattle.server_commands.proofs.acting.commit_learning.Goals as goal

pub learn_after-requires-clause-seen : goal.learn_after-requires-clause-seen
learn_after-requires-clause-seen g c = subst (λ (w : Workspace). g.D.Desk.sees c.commit.new.self w) (sym c.requires.files) c.in-Ok.ensures.sees
