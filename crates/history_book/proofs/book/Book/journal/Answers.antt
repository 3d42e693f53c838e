-- The invariant of `Book` says what its events make of the opening content. Where no entries were closed, that is the replay of its journal.
use Rattle.std.proofs.Common.{◌≡◌, subst}
use Rattle.history_machine.specs.Chapters.{HasHistory}
use Rattle.history_machine.specs.Machine.{Machine}
use Rattle.history_machine.proofs.Reaching.{replay_whole}
use Rattle.history_book.proofs.book.Book.journal.Goals as goal

pub returns-clause-reached : goal.returns-clause-reached
returns-clause-reached c = subst (λ (x : Machine). ∥ HasHistory x ∥₁) c.self.view_is c.self.invariant.5

pub returns-clause-replay : goal.returns-clause-replay
returns-clause-replay c none = replay_whole c.args.self.now none (subst (λ (x : Machine). ∥ HasHistory x ∥₁) c.self.view_is c.self.invariant.5)
