-- The answers to the goals of `cycles::cycle_number`.
use Rattle.std.proofs.Common.{inl, inr, refl}
use Rattle.workspace_check.proofs.cycles.cycle_number.Goals as goal

pub returns-then-is_marked : goal.returns-then-is_marked
returns-then-is_marked c = inl (c.is_marked.ensures.0 c.if-is_marked.true, refl)

pub returns-else-is_marked : goal.returns-else-is_marked
returns-else-is_marked c = inr c.number_at.ensures
