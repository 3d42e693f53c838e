-- The clones share what the state has, and its invariant says that what it knows is right.
use Rattle.std.proofs.Common.{sym, subst}
use Rattle.base_files.specs.Workspace.{Workspace}
use Rattle.workspace_check.specs.Found.{KnowsVerdicts}
use Rattle.history_machine.proofs.state.State.snapshot.Goals as goal

pub new-requires : goal.new-requires
new-requires c =
    subst (KnowsVerdicts c.in_ok-files.files) (sym c.in_ok-known.ensures.cases)
    (subst (λ (w : Workspace). KnowsVerdicts w c.self.inside.known) (sym c.in_ok-files.ensures.cases) c.self.invariant.1)
