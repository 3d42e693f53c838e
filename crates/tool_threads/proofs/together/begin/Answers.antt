-- The task is of this workspace, and so is what its thread promises.
use Rattle.std.proofs.Common.{◌≡◌, subst, sym}
use Rattle.std.specs.Prelude.{IfSome}
use Rattle.base_files.specs.Workspace.{Workspace}
use Rattle.workspace_check.specs.Found.{KnowsVerdicts}
use Rattle.workspace_check.specs.declared.known.Known.{Known}
use Rattle.tool_threads.proofs.together.begin.Goals as goal

pub begin-requires : goal.begin-requires
begin-requires g c =
    let task = c.in_ok-task.task in
    subst (λ (w : Workspace). KnowsVerdicts w task.known) (sym c.in_ok-task.ensures.graph)
    (subst (λ (k : Known). KnowsVerdicts c.args.graph.now k) (sym c.in_ok-task.ensures.known) c.requires)

pub returns : goal.returns
returns g c =
    subst (λ (w : Workspace). IfSome c.begin.result (λ thread. thread.promise.graph.value ≡ w)) c.in_ok-task.ensures.graph c.begin.ensures
