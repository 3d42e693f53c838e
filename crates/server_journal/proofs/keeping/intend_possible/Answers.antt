-- Where the change is possible its record is added. Else no record is needed.
use Rattle.std.proofs.Common.{refl, sym, ◌∙◌}
use Rattle.std.proofs.lemmas.Bool.{false≢true}
use Rattle.history_records.specs.Asked.{kept_of}
use Rattle.server_journal.proofs.KeptLaws.{asks_other}
use Rattle.server_journal.proofs.keeping.intend_possible.Goals as goal

pub returns-then-not-is_possible-clause-ok : goal.returns-then-not-is_possible-clause-ok
returns-then-not-is_possible-clause-ok g c = λ event is. (
  asks_other c.args.book.now event (kept_of c.args.change.now) is
      (λ possible. false≢true (sym c.if-not-is_possible.true ∙ c.is_possible.ensures.1 possible)),
  refl,
  refl,
)

pub returns-in-Ok-clause-ok : goal.returns-in-Ok-clause-ok
returns-in-Ok-clause-ok g c = λ event is. (kept_of c.args.change.now, (is, c.is_possible.ensures.0 c.if-not-is_possible.false), c.in-Ok.ensures.ok)
