-- The files that are seen are the current ones.
use Rattle.std.proofs.Common.{sym, subst}
use Rattle.base_files.specs.Workspace.{Workspace}
use Rattle.workspace_check.specs.Found.{KnowsVerdicts}
use Rattle.history_machine.specs.Machine.{Machine}
use Rattle.server_commands.proofs.desk.SoloDesk.learn.Goals as goal

pub learn_current-requires : goal.learn_current-requires
learn_current-requires c =
    subst (λ (m : Machine). KnowsVerdicts m.current.files c.args.known) (sym c.self.view_is)
    (subst (λ (w : Workspace). KnowsVerdicts w c.args.known) c.requires.seen c.requires.known)
