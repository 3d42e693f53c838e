-- The content stays, as contracts see it.
use Rattle.std.proofs.Common.{sym, subst, vec_capacity}
use Rattle.history_machine.specs.Machine.{Content}
use Rattle.history_book.proofs.BookUnits.{KeptBook}
use Rattle.history_book.proofs.book.Book.learn_units.Goals as goal

pub invariant_of-self : goal.invariant_of-self
invariant_of-self c =
    subst (λ (x : Content). KeptBook x c.self.inside.journal.items (vec_capacity c.self.inside.journal)) (sym c.learn_units.ensures) c.self.invariant
