-- The first package waits in the machine that is seen.
use Rattle.std.proofs.Common.{subst}
use Rattle.history_machine.specs.Machine.{Machine}
use Rattle.history_machine.specs.Waiting.{FindsWaiting}
use Rattle.history_book.proofs.book.Book.first_waiting.Goals as goal

pub returns : goal.returns
returns c = subst (λ (m : Machine). FindsWaiting m.current m.out m.visit c.first_waiting.result) c.self.view_is c.first_waiting.ensures
