-- When a shared book is settled: its new entries are exactly those of the receipts that were handed in.
use Rattle.std.specs.Prelude.{◌≡◌, ℕ, ◌+◌, ◌<◌, ◌≤◌, List, length, map, nat_eq, slice_get, sum_by, All, AllPairs, Some}
use Rattle.std.specs.List.{IsDistinct}
use Rattle.history_machine.specs.declared.entry.Entry.{Entry}
use Rattle.server_shared.specs.declared.receipt.Receipt.{Receipt}

-- the journal has the receipt's entry at the receipt's index, which is `from` at least
abbrev pub IsInJournal : ℕ → List Entry → Receipt → Type 0
IsInJournal from journal receipt = (from ≤ receipt.index) × (slice_get journal receipt.index ≡ Some receipt.entry)

-- the receipts' indexes rise
abbrev pub Rises : List Receipt → Type 0
Rises = AllPairs (λ r s. r.index < s.index)

-- the indexes of the receipts, in their order
abbrev pub indexes : List Receipt → List ℕ
indexes receipts = map (λ r. r.index) receipts

-- how many receipts the seats have
abbrev pub receipt_count : List (List Receipt) → ℕ
receipt_count = sum_by length

-- The entries that the journal gained since it had `from` of them are exactly those of the receipts, each once.
pub record IsSettled (from : ℕ) (journal : List Entry) (receipts : List Receipt) : Type 0 where
  pub stand : All (IsInJournal from journal) receipts
  pub once : IsDistinct nat_eq (indexes receipts)
  pub counted : length journal ≡ from + length receipts
