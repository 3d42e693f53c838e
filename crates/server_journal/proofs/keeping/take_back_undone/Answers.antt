-- Where the event was not done the record is taken away, or the store was given up.
use Rattle.std.proofs.Common.{sym, ◌∙◌}
use Rattle.std.proofs.lemmas.Bool.{false≢true}
use Rattle.server_journal.proofs.KeptLaws.{back_or_lost}
use Rattle.server_journal.proofs.keeping.take_back_undone.Goals as goal

pub returns-then-is_done_entry-clause-back : goal.returns-then-is_done_entry-clause-back
returns-then-is_done_entry-clause-back g c = λ not. absurd (not (c.is_done_entry.ensures.0 c.if-is_done_entry.true))

pub returns-clause-done : goal.returns-clause-done
returns-clause-done g c = λ done. absurd (false≢true (sym c.if-is_done_entry.false ∙ c.is_done_entry.ensures.1 done))

pub returns-clause-back : goal.returns-clause-back
returns-clause-back g c = λ _.
    back_or_lost c.take_back-is_back.result (g.S.Store.holds c.args.kept.now.store) (g.S.Store.holds c.take_back-is_back.new.self.store)
    c.args.kept.now.is_lost c.take_back-is_back.new.self.is_lost c.args.before c.take_back-is_back.ensures.back c.take_back-is_back.ensures.unlost
    c.take_back-is_back.ensures.lost
