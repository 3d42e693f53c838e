-- The answers to the goals of `texts::run_tasks`.
use Rattle.std.proofs.Common.{◌+◌, arith, subst, sym, take}
use Rattle.lsp_requests.specs.Texts.{RunTexts}
use Rattle.lsp_requests.proofs.Running.{run_all, run_failed, run_next}
use Rattle.lsp_requests.proofs.texts.run_tasks.Goals as goal

pub loop-task-preserved : goal.loop-task-preserved
loop-task-preserved g c =
    subst (λ changes. RunTexts g.D.Desk.steps c.args.desk.now (take (c.loop-task.task-index + 1) c.args.tasks.now) changes c.run_task.new.desk)
    (sym c.is_either-changes.ensures)
    (run_next g.D.Desk.steps c.args.tasks.now c.loop-task.task-index c.args.desk.now c.loop-task.desk c.run_task.new.desk c.task-item.result
    c.loop-task.changes c.in-Ok.changed c.loop-task-test.true c.task-item.is c.in-Ok.ensures c.loop-task.invariant)

pub returns-in-Err : goal.returns-in-Err
returns-in-Err g c =
    run_failed g.D.Desk.steps c.args.tasks.now c.loop-task.task-index c.args.desk.now c.loop-task.desk c.run_task.new.desk c.task-item.result
    c.loop-task.changes c.in-Err.refusal c.loop-task-test.true c.task-item.is c.in-Err.ensures c.loop-task.invariant

pub returns : goal.returns
returns g c =
    run_all g.D.Desk.steps c.args.tasks.now c.loop-task.task-index c.args.desk.now c.loop-task.desk c.loop-task.changes
    (omega (arith, c.loop-task-test.false)) c.loop-task.invariant
