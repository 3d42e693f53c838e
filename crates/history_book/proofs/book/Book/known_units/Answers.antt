-- The finished units of the current state are right.
use Rattle.std.proofs.Common.{IfOk, ◌≡◌, subst}
use Rattle.history_machine.specs.Machine.{Machine}
use Rattle.history_book.proofs.BookUnits.{finished_known}
use Rattle.history_book.proofs.book.Book.known_units.Goals as goal

pub known_units-requires : goal.known_units-requires
known_units-requires c = finished_known c.self.inside.content.current.files c.self.inside.content.current.finished c.self.invariant.6.current

pub returns : goal.returns
returns c = subst (λ (m : Machine). IfOk c.known_units.result (λ units. units ≡ m.current.files)) c.self.view_is c.known_units.ensures
