-- Each package of the current state is finished, as was found.
use Rattle.std.proofs.Common.{◌↔◌, IsTrue, subst}
use Rattle.history_machine.specs.Machine.{Content}
use Rattle.history_book.specs.WorkLeft.{AreAllFinished}
use Rattle.history_book.proofs.content.Content.has_all_finished.Goals as goal

pub returns : goal.returns
returns c = subst (λ (x : Content). IsTrue c.are_all_finished.result ↔ AreAllFinished x.current) c.self.view_is c.are_all_finished.ensures
