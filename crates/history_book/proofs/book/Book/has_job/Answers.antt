-- There is room for a Take, and a package waits, as was found.
use Rattle.std.proofs.Common.{◌↔◌, IsTrue, ℕ, List, sym, subst, ◌∙◌}
use Rattle.std.proofs.lemmas.Bool.{false≢true}
use Rattle.history_machine.specs.Machine.{Machine, content, with_journal}
use Rattle.history_machine.specs.Waiting.{WaitsIn}
use Rattle.history_book.proofs.book.Book.has_job.Goals as goal

pub returns-then-not-has_room : goal.returns-then-not-has_room
returns-then-not-has_room c = (λ e. absurd (false≢true e), λ has. absurd (false≢true (sym c.if-not-has_room.true ∙ c.has_room.ensures.1 has.0)))

pub returns : goal.returns
returns c =
    let m : Machine = with_journal c.self.inside.content c.self.inside.journal.items in
    let found : IsTrue c.has_waiting.result ↔ ((p : List ℕ) × WaitsIn (content m) p) = c.has_waiting.ensures in
    let waits = subst (λ (x : Machine). IsTrue c.has_waiting.result ↔ ((p : List ℕ) × WaitsIn (content x) p)) c.self.view_is found in
    (λ e. (c.has_room.ensures.0 c.if-not-has_room.false, waits.0 e), λ has. waits.1 has.1)
