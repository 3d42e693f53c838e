-- What a shared book tells of itself.
use Rattle.std.specs.Prelude.{◌≡◌, ℕ, length}
use Rattle.history_machine.specs.Machine.{Machine, content, snapshot_of}
use Rattle.server_shared.specs.Steps.{IsReplayed}
use Rattle.server_shared.specs.declared.standing.Standing.{Standing}

-- what is told is of this book: its current state, how many entries were closed, and how many its journal has
pub record IsStandingOf (book : Machine) (standing : Standing) : Type 0 where
  pub state : standing.snapshot ≡ snapshot_of (content book)
  pub begun : standing.begun ≡ book.begun
  pub entries : standing.entries ≡ length book.journal

-- What is told is of some book, whose journal has at most `most` entries. It is what its events made of the opening state.
abbrev pub TellsOfBook : ℕ → Standing → Type 0
TellsOfBook most standing = (book : Machine) × (book.limits.journal ≡ most) × IsReplayed book × IsStandingOf book standing
