-- The first package waits in the content that is seen.
use Rattle.std.proofs.Common.{subst}
use Rattle.history_machine.specs.Machine.{Content}
use Rattle.history_machine.specs.Waiting.{FindsWaiting}
use Rattle.history_book.proofs.content.Content.first_waiting.Goals as goal

pub returns : goal.returns
returns c = subst (λ (m : Content). FindsWaiting m.current m.out m.visit c.first_waiting.result) c.self.view_is c.first_waiting.ensures
