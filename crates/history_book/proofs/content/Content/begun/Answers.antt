-- The count is that of the content.
use Rattle.std.proofs.Common.{ap}
use Rattle.history_machine.specs.Machine.{Content}
use Rattle.history_book.proofs.content.Content.begun.Goals as goal

pub returns : goal.returns
returns c = ap (λ (x : Content). x.begun) c.self.view_is
