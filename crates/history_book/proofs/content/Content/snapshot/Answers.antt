-- The snapshot is of the current state that is seen.
use Rattle.std.proofs.Common.{◌≡◌, IfOk, subst}
use Rattle.history_machine.specs.Machine.{Content}
use Rattle.history_book.proofs.content.Content.snapshot.Goals as goal

pub returns : goal.returns
returns c =
    subst (λ (m : Content). IfOk c.snapshot.result (λ shown. shown ≡ record { number = m.current.number; limits = m.limits; files = m.current.files }))
    c.self.view_is c.snapshot.ensures
