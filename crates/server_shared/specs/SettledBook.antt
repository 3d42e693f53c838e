-- The book that comes back from settling.
use Rattle.std.specs.Prelude.{◌≡◌, ◌+◌, ◌≤◌, ◌↔◌, ℕ, Bool, List, [], All, IsTrue, Result, Ok, Err, length}
use Rattle.history_machine.specs.Machine.{Machine}
use Rattle.server_shared.specs.declared.receipt.Receipt.{Receipt}
use Rattle.server_shared.specs.declared.settling.Unsettled.{Unsettled}
use Rattle.server_shared.specs.Past.{HasPast, IsHandedIn}
use Rattle.server_shared.specs.Settled.{IsSettled}

-- the book, settled or not
abbrev pub book_in : Result Machine Unsettled → Machine
book_in (Ok book) = book
book_in (Err unsettled) = unsettled.book

-- How a book is settled that so many seats shared. `receipts` are those that were handed in for its last chapter, whose entries from `from`
-- on have receipts. It is settled exactly where its entries there are exactly those of the receipts. If all seats come back and hold no
-- receipt, there are as many of both.
pub record IsSettling (P : List Receipt → Type 0) (begun first parts : ℕ) (seats : List (List Receipt)) (book : Machine) (is_settled : Bool) : Type 0 where
  pub from : ℕ
  pub receipts : List Receipt
  pub past : HasPast P begun first from book
  pub known : IsHandedIn P receipts
  pub exact : IsTrue is_settled ↔ IsSettled from book.journal receipts
  pub bound : from + length receipts ≤ length book.journal
  pub whole : length seats ≡ parts → All (λ (seat : List Receipt). seat ≡ []) seats → length book.journal ≡ from + length receipts
