-- The answers to the goals of `reachability::Reachable::mark`.
use Rattle.std.proofs.Common.{sym, subst, true}
use Rattle.std.specs.Prelude.{slice_set}
use Rattle.types_declared.specs.Reachability.{ListsMarks}
use Rattle.types_declared.proofs.ReachableParts.{listed_more, fresh_at}
use Rattle.types_declared.proofs.reachability.Reachable.mark.Goals as goal

pub returns-in_ok-push-clause-listed : goal.returns-in_ok-push-clause-listed
returns-in_ok-push-clause-listed c =
    subst (λ f. ListsMarks f (slice_set c.args.self.now.marks.items c.args.number true)) (sym c.in_ok-push.ensures.items)
    (listed_more c.args.self.now.found.items c.args.self.now.marks.items c.args.number c.requires.in_range
    (fresh_at c.args.self.now.marks.items c.args.number c.index.result.now c.requires.in_range c.index.ensures c.if-not-index.true) c.requires.listed)
