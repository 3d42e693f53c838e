-- The sorted receipts pass the tests exactly where the receipts settle the journal.
use Rattle.std.proofs.Common.{sym, ◌∙◌, arith}
use Rattle.std.proofs.lemmas.Bool.{false≢true}
use Rattle.server_shared.proofs.ReceiptLaws.{counted_so, rises_so, settles, stands_so}
use Rattle.server_shared.proofs.comparing.is_settled.Goals as goal

pub returns-then-journal-from-clause-exact : goal.returns-then-journal-from-clause-exact
returns-then-journal-from-clause-exact c = (
  λ e. absurd (false≢true e),
  λ s. absurd (omega (arith, counted_so c.args.from c.args.journal.now c.args.receipts.now c.sort.new.receipts c.sort.ensures.same c.sort.ensures.sorted s)),
)

pub returns-then-not-rises-clause-exact : goal.returns-then-not-rises-clause-exact
returns-then-not-rises-clause-exact c = (
  λ e. absurd (false≢true e),
  λ s. absurd (false≢true (sym c.if-not-rises.true
      ∙ c.rises.ensures.1 (rises_so c.args.from c.args.journal.now c.args.receipts.now c.sort.new.receipts c.sort.ensures.same c.sort.ensures.sorted s))),
)

pub returns-clause-exact : goal.returns-clause-exact
returns-clause-exact c = (
  λ e. settles c.args.from c.args.journal.now c.args.receipts.now c.sort.new.receipts c.sort.ensures.same c.sort.ensures.sorted
      (omega arith) (c.rises.ensures.0 c.if-not-rises.false) (c.all_in_journal.ensures.0 e),
  λ s. c.all_in_journal.ensures.1
      (stands_so c.args.from c.args.journal.now c.args.receipts.now c.sort.new.receipts c.sort.ensures.same c.sort.ensures.sorted s),
)
