-- The content stays, as contracts see it.
use Rattle.std.proofs.Common.{◌≡◌, sym, subst, vec_capacity}
use Rattle.history_machine.specs.Machine.{Content, Machine}
use Rattle.history_book.proofs.BookUnits.{KeptBook}
use Rattle.history_book.proofs.book.Book.learn_current_units.Goals as goal

pub learn_current_units-requires : goal.learn_current_units-requires
learn_current_units-requires c = subst (λ (m : Machine). c.args.units ≡ m.current.files) (sym c.self.view_is) c.requires

pub invariant_of-self : goal.invariant_of-self
invariant_of-self c =
    subst (λ (x : Content). KeptBook x c.self.inside.journal.items (vec_capacity c.self.inside.journal)) (sym c.learn_current_units.ensures) c.self.invariant
