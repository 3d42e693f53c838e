-- What is known is of the files of the current state.
use Rattle.std.proofs.Common.{sym, ap, ◌∙◌}
use Rattle.history_machine.specs.Machine.{Content}
use Rattle.history_book.proofs.content.Content.learn_current_units.Goals as goal

pub invariant_of-self : goal.invariant_of-self
invariant_of-self c = (
  c.self.invariant.0,
  c.self.invariant.1,
  c.requires ∙ ap (λ (m : Content). m.current.files) (sym c.self.view_is),
)
