-- The chapters of a shared book that were closed: each was settled by the receipts that were handed in for it.
use Rattle.std.specs.Prelude.{◌≡◌, ℕ, ⊤, List, [], ◌∷◌, ◌++◌, All, IsPermutation, flat_map, length, map}
use Rattle.history_machine.specs.Chapters.{Occurrence, RunsOver, all_entries}
use Rattle.history_machine.specs.Machine.{Machine, opening}
use Rattle.history_machine.specs.declared.entry.Entry.{Entry}
use Rattle.server_shared.specs.declared.receipt.Receipt.{Receipt}
use Rattle.server_shared.specs.Settled.{IsSettled}

-- The receipts, in some order, are those that seats handed in, each time all that the seat held. What is handed in together has the property P.
abbrev pub IsHandedIn : (List Receipt → Type 0) → List Receipt → Type 0
IsHandedIn P receipts =
    (pieces : List (List Receipt)) × IsPermutation (flat_map (λ (piece : List Receipt). piece) pieces) receipts × All P pieces

-- a chapter that was closed: its journal, and the receipts that were handed in for its entries
abbrev pub PastChapter : Type 0
PastChapter = List Entry × List Receipt

-- the journals of these chapters
abbrev pub past_journals : List PastChapter → List (List Entry)
past_journals = map (λ c. c.0)

-- Each chapter was settled, the first one from its entry `from` on, and each later one whole.
abbrev pub AreSettled : (List Receipt → Type 0) → (from : ℕ) → List PastChapter → Type 0
AreSettled P from [] = ⊤
AreSettled P from (chapter ∷ chapters) =
    IsSettled from chapter.0 chapter.1 × IsHandedIn P chapter.1 × AreSettled P 0 chapters

-- from which entry on the journal behind these chapters has receipts, where the journal of the first chapter has them from `from` on
abbrev pub from_behind : (from : ℕ) → List PastChapter → ℕ
from_behind from [] = from
from_behind from (chapter ∷ chapters) = 0

-- The machine is what some run over borders makes of the opening state. Before its book was shared journals with `begun` entries were closed. The
-- chapters that were closed since were settled. The journal of the first one has receipts from its entry `first` on, and the machine's journal
-- from its entry `from` on.
pub record HasPast (P : List Receipt → Type 0) (begun first from : ℕ) (m : Machine) : Type 0 where
  pub before : List (List Entry)
  pub earlier : begun ≡ length (all_entries before)
  pub none : begun ≡ 0 → before ≡ []
  pub chapters : List PastChapter
  pub settled : AreSettled P first chapters
  pub begins : from ≡ from_behind first chapters
  pub course : List Occurrence
  pub runs : RunsOver (opening m.limits) course (before ++ past_journals chapters) m
