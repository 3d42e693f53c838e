-- The answers to the goals of `tables::moved_table`.
use Rattle.std.proofs.Common.{subst}
use Rattle.std.specs.Map.Iter.{deref_pair}
use Rattle.std.proofs.lemmas.Map.Iter.{rest_more}
use Rattle.refactor_known.specs.Tables.{entry_at}
use Rattle.refactor_known.proofs.Entries.{IsSoFar, finds, next_entry}
use Rattle.refactor_known.proofs.tables.moved_table.Goals as goal

pub loop-name-preserved : goal.loop-name-preserved
loop-name-preserved g c =
    let left = rest_more deref_pair _ _ _ (c.in-Some.name, c.in-Some.value) c.in-Some.is c.next.ensures.steps in
    λ name.
    next_entry (g.T.Movable.moves c.args.swap.now) (entry_at c.args.old.now name) c.loop-name.table c.add.new.table c.in-Some.name.now c.in-Some.value.now
    c.next.new.self name c.in_ok-add.ensures
    (subst (λ xs. IsSoFar (g.T.Movable.moves c.args.swap.now) (entry_at c.args.old.now name) (entry_at c.loop-name.table name) (finds name xs)) left
    (c.loop-name.invariant name))
