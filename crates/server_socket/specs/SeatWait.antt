-- What is said at a seat: how a wait ended, and numbers.
use Rattle.std.specs.Prelude.{◌≡◌, ℕ, List, MatchResult, Result, Ok, Err}
use Rattle.base_files.specs.declared.refusal.Refusal.{Refusal}
use Rattle.base_files.specs.declared.refusal.Refusal.TheVariants.{Memory}
use Rattle.history_machine.specs.Machine.{Machine}
use Rattle.history_machine.specs.declared.view.View.{View}
use Rattle.server_commands.specs.Numbers.{AreBookNumbers}
use Rattle.server_commands.specs.Wait.{Aside, SaysNumbers, SaysWait}
use Rattle.server_commands.specs.declared.numbers.BookNumbers.{BookNumbers}
use Rattle.server_shared.specs.declared.receipt.Receipt.{Receipt}
use Rattle.server_shared.specs.Call.{LooksOnceBuilt}
use Rattle.server_shared.specs.Steps.{IsReplayed}

-- the number of the state that a look showed, or why the look was refused
abbrev pub number_shown : Result View Refusal → Result ℕ Refusal
number_shown (Ok view) = Ok view.snapshot.number
number_shown (Err refusal) = Err refusal

-- The numbers are those of some book, whose journal has at most `most` entries. It is what its events made of the opening state. No clause says how
-- many sessions and workers there are, when the chapter is closed, and how many bytes its changes keep.
abbrev pub TellsSomeBook : ℕ → BookNumbers → Type 0
TellsSomeBook most numbers = (book : Machine) × (book.limits.journal ≡ most) × IsReplayed book × AreBookNumbers book numbers

-- The seat gains the receipt of one look, which shows that each package is finished, and the outcome is its state's number. Or the wait is
-- refused, the outcome is its refusal, and the seat gains none. For numbers, which are refused only for want of memory, it gains none either.
abbrev pub WaitsUntilBuilt : ℕ → List Receipt → Aside → List Receipt → Type 0
WaitsUntilBuilt most old (SaysWait outcome) new =
    (shown : Result View Refusal) × LooksOnceBuilt most old shown new × (outcome ≡ number_shown shown)
WaitsUntilBuilt most old (SaysNumbers outcome) new =
    MatchResult outcome (λ numbers. TellsSomeBook most numbers.book) (λ refusal. refusal ≡ Memory) × (new ≡ old)
