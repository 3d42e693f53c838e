-- The invariants of the loops of `underlying::ends`.
use Rattle.std.proofs.Common.{◌≡◌, take}
use Rattle.std.specs.Prelude.{map}
use Rattle.types_members.specs.Steps.{is_last_step}
use Rattle.types_members.proofs.underlying.ends.Given as goal

abbrev pub invariant-loop-step : goal.invariant-loop-step
invariant-loop-step l = l.marks.items ≡ map is_last_step (take l.step-index l.steps)
