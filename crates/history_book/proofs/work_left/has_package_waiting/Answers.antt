-- A package waits exactly where a first one was found.
use Rattle.std.proofs.Common.{Bool, List, ℕ, sym, subst}
use Rattle.std.specs.Prelude.{◌↔◌, IsTrue}
use Rattle.history_machine.specs.Waiting.{IsWaiting}
use Rattle.history_book.proofs.WorkLeft.{found_waits}
use Rattle.history_book.proofs.work_left.has_package_waiting.Goals as goal

pub returns : goal.returns
returns c =
    subst (λ (b : Bool). IsTrue b ↔ ((p : List ℕ) × IsWaiting c.args.state.now c.args.out.now c.args.visit p)) (sym c.is_some.ensures)
    (found_waits c.args.state.now c.args.out.now c.args.visit c.first_waiting.result c.first_waiting.ensures)
