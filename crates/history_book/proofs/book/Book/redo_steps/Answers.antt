-- The steps are those of the content.
use Rattle.std.proofs.Common.{length, ap, ◌∙◌}
use Rattle.history_machine.specs.Machine.{Machine}
use Rattle.history_book.proofs.book.Book.redo_steps.Goals as goal

pub returns : goal.returns
returns c = c.redo_steps.ensures ∙ ap (λ (m : Machine). length m.later) c.self.view_is
