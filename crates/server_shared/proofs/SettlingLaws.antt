-- A book that is settled, from what was gathered of its receipts.
use Rattle.std.proofs.Common.{◌≡◌, ◌↔◌, ◌+◌, ◌*◌, ◌≤◌, ℕ, Bool, IsTrue, List, [], All, length, ap, inl, inr, subst, sym, arith}
use mathlib.Core.Logic.{∥∥₁_map, ∥∥₁_map₂}
use Rattle.std.proofs.lemmas.List.Elements.{All-weaker}
use Rattle.std.proofs.lemmas.List.Sums.{sum_by-le}
use Rattle.base_files.specs.declared.refusal.Refusal.TheVariants.{Disk}
use Rattle.history_machine.specs.JournalSteps.{JournalStep}
use Rattle.history_machine.specs.Machine.{Machine, closed}
use Rattle.history_machine.specs.declared.entry.Entry.{Entry}
use Rattle.history_machine.specs.declared.event.Event.{Event}
use Rattle.history_machine.specs.declared.event.Reply.{Reply}
use Rattle.std.specs.Prelude.{Option}
use Rattle.server_journal.specs.Keeping.{KeptStep}
use Rattle.server_shared.specs.Past.{HasPast, IsHandedIn}
use Rattle.server_shared.specs.Settled.{IsSettled, receipt_count}
use Rattle.server_shared.specs.SettledBook.{IsSettling}
use Rattle.server_shared.specs.declared.receipt.Receipt.{Receipt}
use Rattle.server_shared.proofs.PastLaws.{past_closed, past_on}

module _ (P : List Receipt → Type 0) (begun first from : ℕ) where
  -- a step of the book, and one that closes its journal
  pub past_stepped : (old : Machine) (event : Event) (reply : Reply) (kept : Option Entry) (new : Machine) → new.limits ≡ old.limits →
      JournalStep old event reply kept new → ∥ HasPast P begun first from old ∥₁ → ∥ HasPast P begun first from new ∥₁
  past_stepped old event reply kept new limits step past =
      ∥∥₁_map past (λ (p : HasPast P begun first from old). past_on P begun first from old new event reply limits step.0 p)

  -- the same of one whose change may be kept
  pub past_kept : (old : Machine) (event : Event) (reply : Reply) (left : Option Entry) (new : Machine) → new.limits ≡ old.limits →
      KeptStep Disk old event reply left new → ∥ HasPast P begun first from old ∥₁ → ∥ HasPast P begun first from new ∥₁
  past_kept old event reply left new limits (inl step) past = past_stepped old event reply left new limits step past
  past_kept old event reply left new limits (inr away) past = subst (λ (m : Machine). ∥ HasPast P begun first from m ∥₁) (sym away.3) past

  pub past_with_border : (m : Machine) (receipts : List Receipt) → IsSettled from m.journal receipts → ∥ IsHandedIn P receipts ∥₁ →
      ∥ HasPast P begun first from m ∥₁ → ∥ HasPast P begun first 0 (closed m) ∥₁
  past_with_border m receipts settled handed past =
      ∥∥₁_map₂ past handed (λ (p : HasPast P begun first from m) (h : IsHandedIn P receipts). past_closed P begun first from m receipts p settled h)

  none_held : (seats : List (List Receipt)) → All (λ (seat : List Receipt). seat ≡ []) seats → receipt_count seats ≤ length seats * 0
  none_held seats none = sum_by-le length 0 seats
      (All-weaker (λ (seat : List Receipt). seat ≡ []) (λ (seat : List Receipt). length seat ≤ 0) (λ seat e. omega (arith, ap length e)) seats none)

  -- `before` are the receipts handed in before the seats came back, `receipts` those with what the seats still held
  pub settling_of : (parts : ℕ) (seats : List (List Receipt)) (book : Machine) (before receipts : List Receipt) (total amount all : ℕ) (is_settled : Bool)
      → ∥ HasPast P begun first from book ∥₁ → ∥ IsHandedIn P receipts ∥₁ → IsTrue is_settled ↔ IsSettled from book.journal receipts
      → length book.journal ≡ from + length before + total → amount ≤ total → (all ≡ parts → amount ≡ total) → amount ≡ receipt_count seats
      → all ≤ parts → length seats ≤ all → length receipts ≤ length before + receipt_count seats
      → (All (λ (seat : List Receipt). seat ≡ []) seats → receipts ≡ before)
      → ∥ IsSettling P begun first parts seats book is_settled ∥₁
  settling_of parts seats book before receipts total amount all is_settled past handed exact counted within audited held apart count more same =
      ∥∥₁_map₂ past handed (λ (p : HasPast P begun first from book) (h : IsHandedIn P receipts). record {
        from = from;
        receipts = receipts;
        past = p;
        known = h;
        exact = exact;
        bound = omega (arith, counted, within, held, more);
        whole = λ whole none.
            let all_parts : all ≡ parts = omega (arith, apart, count, whole) in
            let total_is : amount ≡ total = audited all_parts in
            let zero_held : receipt_count seats ≡ 0 = omega (arith, none_held seats none) in
            let same_length : length receipts ≡ length before = ap length (same none) in
            omega (arith, counted, total_is, zero_held, held, same_length);
      })
