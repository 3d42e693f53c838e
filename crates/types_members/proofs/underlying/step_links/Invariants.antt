-- The invariants of the loops of `underlying::step_links`.
use Rattle.types_members.proofs.Steps.{LinksBelow}
use Rattle.types_members.proofs.underlying.step_links.Given as goal

abbrev pub invariant-loop-rank : goal.invariant-loop-rank
invariant-loop-rank l = LinksBelow l.steps l.links.items l.rank
