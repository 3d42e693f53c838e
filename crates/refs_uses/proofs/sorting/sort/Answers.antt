-- The answers to the goals of `sorting::sort`.
use Rattle.refs_uses.proofs.Spots.{contained, sorted_places}
use Rattle.refs_uses.proofs.sorting.sort.Goals as goal

pub returns-clause-keeps : goal.returns-clause-keeps
returns-clause-keeps c = λ s h. let a = c.sort_strictly.ensures.keeps s h in contained _ s a.1 a.0 a.2 a.3 a.4

pub returns-clause-order : goal.returns-clause-order
returns-clause-order c = sorted_places _ c.sort_strictly.ensures.order
