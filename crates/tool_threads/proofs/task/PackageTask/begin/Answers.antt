-- The task may go to its thread, which keeps its promise: the workspace of the task is that of the promise.
use Rattle.std.proofs.Common.{◌∙◌, ap, subst, sym}
use denote.Exit.{no}
use denote.Param.Send.{arg_send, param_send, sendable}
use Rattle.std.proofs.Crossing.{crosses}
use Rattle.server_shared.proofs.SendsFound.{verdict_sent}
use Rattle.base_files.specs.Workspace.{Workspace}
use Rattle.tool_threads.specs.Given.{GiveVerdictsOf}
use Rattle.tool_threads.specs.declared.task.VerdictsPromised.{VerdictsPromised}
use Rattle.workspace_parsing.proofs.SendsTask.{one_sent}
use Rattle.tool_threads.proofs.SendsTask.{task_sent}
use Rattle.tool_threads.proofs.task.PackageTask.begin.Goals as goal

pub spawn_with-requires-clause-keeps : goal.spawn_with-requires-clause-keeps
spawn_with-requires-clause-keeps g c = λ κs outlived r post. subst (λ (w : Workspace). GiveVerdictsOf w r) (sym c.of.ensures) post

pub spawn_with-requires-send-F : goal.spawn_with-requires-send-F
spawn_with-requires-send-F g c = λ κs outlived. param_send 2 _ (arg_send _ no _ (one_sent _ _ task_sent))

pub spawn_with-requires-send-T : goal.spawn_with-requires-send-T
spawn_with-requires-send-T g c = λ κs outlived. search (sendable, crosses, verdict_sent) depth 30 fits 50000

pub returns-in-Ok : goal.returns-in-Ok
returns-in-Ok g c =
    let kept = rw c.in-Ok.is at c.spawn_with.ensures.ok in
    ap (λ (p : VerdictsPromised). p.graph.value) kept ∙ c.of.ensures
