-- Numbers that are made of what a book shows.
use Rattle.std.proofs.Common.{◌≡◌, ℕ, length, subst}
use Rattle.history_machine.specs.Machine.{Machine, content, snapshot_of}
use Rattle.server_commands.specs.Numbers.{AreBookNumbers, AreNumbersOf}
use Rattle.server_commands.specs.declared.numbers.BookNumbers.{BookNumbers}
use Rattle.workspace_snapshot.specs.declared.snapshot.Snapshot.{Snapshot}

pub of_book : (m : Machine) (snapshot : Snapshot) (chapter entries : ℕ) (numbers : BookNumbers) → snapshot ≡ snapshot_of (content m) → chapter ≡ m.begun
    → entries ≡ length m.journal → AreNumbersOf snapshot chapter entries numbers → AreBookNumbers m numbers
of_book m snapshot chapter entries numbers shown begun counted are =
    let first = subst (λ (n : ℕ). AreNumbersOf snapshot chapter n numbers) counted are in
    let second = subst (λ (n : ℕ). AreNumbersOf snapshot n (length m.journal) numbers) begun first in
    subst (λ (s : Snapshot). AreNumbersOf s m.begun (length m.journal) numbers) shown second
