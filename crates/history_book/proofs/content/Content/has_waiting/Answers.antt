-- A package of the current state waits, as was found.
use Rattle.std.proofs.Common.{◌↔◌, IsTrue, ℕ, List, subst}
use Rattle.history_machine.specs.Machine.{Content}
use Rattle.history_machine.specs.Waiting.{WaitsIn}
use Rattle.history_book.proofs.content.Content.has_waiting.Goals as goal

pub returns : goal.returns
returns c = subst (λ (x : Content). IsTrue c.has_package_waiting.result ↔ ((p : List ℕ) × WaitsIn x p)) c.self.view_is c.has_package_waiting.ensures
