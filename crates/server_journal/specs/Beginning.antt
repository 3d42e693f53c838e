-- Stores in which records begin to be kept.
use Rattle.std.specs.Prelude.{◌≡◌, ℕ, Bool, List, Option, IfSome}
use Rattle.base_files.specs.declared.limits.Limits.{Limits}
use Rattle.history_machine.specs.Machine.{Machine}
use Rattle.server_journal.specs.Keeping.{KeepsChanges}
use Rattle.server_journal.specs.Opened.{IsBookIn}

-- The store held these bytes, if that is known, and a book was recovered from them. Now it holds the changes of the book's history.
abbrev pub BeginsToKeep : (heading : List ℕ) → (whole : ℕ) → (before after : Option (List ℕ)) → (is_lost : Bool) → Type 0
BeginsToKeep heading whole before after is_lost =
    (limits : Limits) (bytes : List ℕ) (book : Machine) → IfSome before (λ held. held ≡ bytes) → IsBookIn limits heading bytes book whole
    → KeepsChanges heading limits after is_lost book
