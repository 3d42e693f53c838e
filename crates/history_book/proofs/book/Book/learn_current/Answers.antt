-- The content stays, as contracts see it, so it is still the journal's replay.
use Rattle.std.proofs.Common.{sym, subst, vec_capacity}
use Rattle.workspace_check.specs.Found.{KnowsVerdicts}
use Rattle.history_machine.specs.Machine.{Content, Machine}
use Rattle.history_book.proofs.BookUnits.{KeptBook}
use Rattle.history_book.proofs.book.Book.learn_current.Goals as goal

pub learn_current-requires : goal.learn_current-requires
learn_current-requires c = subst (λ (m : Machine). KnowsVerdicts m.current.files c.args.known) (sym c.self.view_is) c.requires

pub invariant_of-self : goal.invariant_of-self
invariant_of-self c =
    subst (λ (x : Content). KeptBook x c.self.inside.journal.items (vec_capacity c.self.inside.journal)) (sym c.learn_current.ensures) c.self.invariant
