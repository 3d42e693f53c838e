-- The answers to the goals of `move_plan::plan_found`.
use Rattle.refactor_plan.proofs.move_plan.plan_found.Goals as goal

pub plan_read-requires-clause-read : goal.plan_read-requires-clause-read
plan_read-requires-clause-read c = record { conflict = c.in_ok-read.ensures.conflict; uses = c.in_ok-read.ensures.uses }
