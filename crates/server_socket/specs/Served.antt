-- What a server returns at its end.
use Rattle.std.specs.Prelude.{◌≡◌, ◌+◌, ℕ, Bool, true, false, List, length, Option, Some, None, Result, Ok, Err, ⊤}
use Rattle.history_machine.specs.Machine.{Machine}
use Rattle.server_shared.specs.declared.receipt.Receipt.{Receipt}
use Rattle.server_shared.specs.LimitNumbers.{full_limits, limit_numbers}
use Rattle.server_shared.specs.SettledBook.{IsSettling}
use Rattle.server_socket.specs.Returned.{AreReturned, IsCalled}
use Rattle.server_socket.specs.declared.fault.ServeFault.{ServeFault}
use Rattle.server_socket.specs.declared.fault.ServeFault.TheVariants.{InUse, Journal, JournalInUse, Memory, Socket, Unsettled}

-- The book that was shared by so many seats comes back, settled or not, with the limits of these numbers. When it was shared, journals with
-- `begun` entries were closed, and its own had `first` of them. Each chapter that was closed since was settled. What a seat handed in has the
-- property P. The seats still hold these receipts.
pub record IsHandedBack (P : List Receipt → Type 0) (begun first parts : ℕ) (limits : List ℕ) (seats : List (List Receipt)) (book : Machine) (is_settled :
    Bool) :
    Type 0 where
  pub limited : limit_numbers book.limits ≡ limits
  pub settling : ∥ IsSettling P begun first parts seats book is_settled ∥₁

-- How many entries all journals have, where those of each chapter are exactly those of the receipts that were handed in for it; unsettled where
-- those of the last chapter are not.
abbrev pub Settles : (List Receipt → Type 0) → (begun first parts : ℕ) → (limits : List ℕ) → List (List Receipt) → Result ℕ ServeFault → Type 0
Settles P begun first parts limits seats (Ok entries) =
    (book : Machine) × IsHandedBack P begun first parts limits seats book true × (entries ≡ book.begun + length book.journal)
Settles P begun first parts limits seats (Err Unsettled) = (book : Machine) × IsHandedBack P begun first parts limits seats book false
Settles P begun first parts limits seats (Err Memory) = ⊥
Settles P begun first parts limits seats (Err Socket) = ⊥
Settles P begun first parts limits seats (Err InUse) = ⊥
Settles P begun first parts limits seats (Err Journal) = ⊥
Settles P begun first parts limits seats (Err JournalInUse) = ⊥

-- Without a folder for its changes a server's book is new: no journal was closed, and its own has no entries.
abbrev pub IsNewBook : (is_kept : Bool) → (begun first : ℕ) → Type 0
IsNewBook true begun first = ⊤
IsNewBook false begun first = (begun ≡ 0) × (first ≡ 0)

-- The book was settled with all its seats, those of so many workers and of so many threads of sessions, and this is its outcome. What a seat
-- handed in together are receipts of a worker's turns alone, or of messages of sessions alone. The book has the greatest limits, so that a
-- journal has 1,000,000 entries at most. It is a new one, unless its changes are kept: then it may have had entries at first. Any other fault
-- says nothing.
abbrev pub Serves : (workers sessions : ℕ) → (is_kept : Bool) → Result ℕ ServeFault → Type 0
Serves workers sessions is_kept (Ok entries) =
    (begun : ℕ) × (first : ℕ) × (seats : List (List Receipt)) × IsNewBook is_kept begun first × AreReturned 1000000 workers sessions seats
    × Settles (IsCalled 1000000) begun first (workers + sessions) full_limits seats (Ok entries)
Serves workers sessions is_kept (Err Unsettled) =
    (begun : ℕ) × (first : ℕ) × (seats : List (List Receipt)) × IsNewBook is_kept begun first × AreReturned 1000000 workers sessions seats
    × Settles (IsCalled 1000000) begun first (workers + sessions) full_limits seats (Err Unsettled)
Serves workers sessions is_kept (Err Memory) = ⊤
Serves workers sessions is_kept (Err Socket) = ⊤
Serves workers sessions is_kept (Err InUse) = ⊤
Serves workers sessions is_kept (Err Journal) = ⊤
Serves workers sessions is_kept (Err JournalInUse) = ⊤

-- the length of the journal at which a chapter is closed: what the words say, or 900,000
abbrev pub mark_said : Option ℕ → ℕ
mark_said (Some entries) = entries
mark_said None = 900000
