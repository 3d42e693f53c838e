-- The answers to the goals of `progress::judged`.
use Rattle.workspace_check.proofs.progress.judged.Goals as goal

pub returns-then-taken : goal.returns-then-taken
returns-then-taken c = record { gathered = c.in_ok-taken.ensures.gathered; each = c.in_ok-taken.ensures.each c.if-taken.true }
