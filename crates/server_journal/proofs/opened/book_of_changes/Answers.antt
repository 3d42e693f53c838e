-- The fault is that of the recovery.
use Rattle.server_journal.proofs.opened.book_of_changes.Goals as goal

pub returns-in-Err-clause-err : goal.returns-in-Err-clause-err
returns-in-Err-clause-err c = (c.in-Err.why, c.from.ensures, c.in-Err.ensures.err)
