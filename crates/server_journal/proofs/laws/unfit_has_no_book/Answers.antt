-- By the lemmas of these names.
use Rattle.server_journal.proofs.Opening.{unfit_has_no_book}
use Rattle.server_journal.proofs.Recovering.{stopped_has_no_history}
use Rattle.server_journal.proofs.laws.unfit_has_no_book.Goals as goal

pub returns-clause-records : goal.returns-clause-records
returns-clause-records c = stopped_has_no_history

pub returns-clause-bytes : goal.returns-clause-bytes
returns-clause-bytes c = unfit_has_no_book
