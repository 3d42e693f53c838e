-- The invariants of the loops of `texts::run_tasks`.
use Rattle.std.proofs.Common.{take}
use Rattle.lsp_requests.specs.Texts.{RunTexts}
use Rattle.lsp_requests.proofs.texts.run_tasks.Given as goal

-- the tasks so far were acted on
abbrev pub invariant-loop-task : goal.invariant-loop-task
invariant-loop-task g l = RunTexts g.D.Desk.steps l.initial.desk (take l.task-index l.tasks) l.changes l.desk
