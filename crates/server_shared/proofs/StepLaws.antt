-- A step under the lock, as its caller sees it, and the limits of its book, which no step changes.
use Rattle.std.proofs.Common.{◌≡◌, ℕ, Bool, length, Option, Some, None, IsSome, is_some, ap, inl, inr, refl, subst, sym, ◌∙◌}
use Rattle.std.proofs.lemmas.Bool.{false≢true}
use Rattle.std.proofs.lemmas.Option.{none-some}
use Rattle.base_files.specs.declared.limits.Limits.{Limits}
use Rattle.base_files.specs.declared.refusal.Refusal.TheVariants.{Disk, Memory, Moved, NothingToUndo, NothingToRedo, JournalFull, Stale, Already, NoJob}
use Rattle.history_machine.specs.declared.entry.Entry.{Entry}
use Rattle.history_machine.specs.declared.event.Event.{Event}
use Rattle.history_machine.specs.declared.event.Event.TheVariants.{Look, Log, Commit, Undo, Redo, Take, Deliver, GiveBack}
use Rattle.history_machine.specs.declared.event.Reply.{Reply}
use Rattle.history_machine.specs.declared.event.Reply.TheVariants.{Looked, Logged, Done, Taken, Refused, Back}
use Rattle.history_machine.specs.JournalSteps.{JournalStep}
use Rattle.history_machine.specs.Machine.{Content, Machine}
use Rattle.history_machine.specs.MayReply.{MayReply}
use Rattle.history_machine.specs.Step.{Step}
use Rattle.history_machine.proofs.Replies.{may_reply, refused_may}
use Rattle.history_records.specs.declared.change.KeptChange.{KeptChange}
use Rattle.law_changes.specs.Changes.{change_asked}
use Rattle.server_journal.specs.Keeping.{KeptStep}
use Rattle.server_shared.specs.declared.receipt.Receipt.{Receipt}
use Rattle.server_shared.specs.Steps.{IsReceiptOrNone, IsReplayed, KeptReceiptStep, ReceiptStep}

-- one step of a book, as its caller sees it
pub step_of : (most : ℕ) (old : Machine) (event : Event) (reply : Reply) (kept : Option Receipt) (new : Machine) → old.limits.journal ≡ most →
    ReceiptStep old event reply kept new
    → IsReceiptOrNone most event reply kept
step_of most old event reply (Some receipt) new is s = (old, new, is, s)
step_of most old event reply None new is s = inr (old, new, is, s)

-- the same of a step that leaves no entry, and of one that leaves the receipt's
pub stepped_without : (most : ℕ) (old : Machine) (event : Event) (reply : Reply) (left : Option Entry) (new : Machine) → old.limits.journal ≡ most →
    IsReplayed old → left ≡ None → JournalStep old event reply left new → IsReceiptOrNone most event reply None
stepped_without most old event reply left new is legal none step =
    inr (old, new, is, (legal, subst (λ (l : Option Entry). JournalStep old event reply l new) none step))

pub stepped_with : (most : ℕ) (old : Machine) (event : Event) (reply : Reply) (left : Option Entry) (receipt : Receipt) (new : Machine) →
    old.limits.journal ≡ most → IsReplayed old → left ≡ Some receipt.entry → receipt.index ≡ length old.journal →
    JournalStep old event reply left new → IsReceiptOrNone most event reply (Some receipt)
stepped_with most old event reply left receipt new is legal some index step =
    (old, new, is, (legal, index, subst (λ (l : Option Entry). JournalStep old event reply l new) some step))

-- the same of a book whose changes may be kept
pub kept_step_of : (most : ℕ) (is_kept : Bool) (old : Machine) (event : Event) (reply : Reply) (kept : Option Receipt) (new : Machine)
    → old.limits.journal ≡ most → KeptReceiptStep is_kept old event reply kept new → IsReceiptOrNone most event reply kept
kept_step_of most is_kept old event reply kept new is (inl s) = step_of most old event reply kept new is s
kept_step_of most is_kept old event reply kept new is (inr away) = subst (λ (k : Option Receipt). IsReceiptOrNone most event reply k) (sym away.2) (inl away.1)

none_asked : (change : Option KeptChange) → change ≡ None → IsSome change → ⊥
none_asked change none some = false≢true (subst (λ (c : Option KeptChange). IsSome c) none some)

-- an event that asks for no change makes a plain step
pub plain_step : (is_kept : Bool) (old : Machine) (event : Event) (reply : Reply) (kept : Option Receipt) (new : Machine) → change_asked event ≡ None →
    KeptReceiptStep is_kept old event reply kept new
    → ReceiptStep old event reply kept new
plain_step is_kept old event reply kept new none (inl s) = s
plain_step is_kept old event reply kept new none (inr away) = absurd (none_asked (change_asked event) none away.1.1)

-- ---- steps whose changes are kept, if there is a store

-- such a step with a receipt, and one without
module _ {A : Type 0} (old : Machine) (event : Event) (reply : Reply) (new : Machine) (legal : IsReplayed old) where
  pub kept_without : (store : Option A) (left : Option Entry) → left ≡ None → KeptStep Disk old event reply left new →
      (store ≡ None → JournalStep old event reply left new) → KeptReceiptStep (is_some store) old event reply None new
  kept_without None left none step plain = inl (legal, subst (λ (l : Option Entry). JournalStep old event reply l new) none (plain refl))
  kept_without (Some a) left none (inl s) plain = inl (legal, subst (λ (l : Option Entry). JournalStep old event reply l new) none s)
  kept_without (Some a) left none (inr away) plain = inr (refl, (away.0, away.1), refl, away.3)

  pub kept_with : (store : Option A) (left : Option Entry) (receipt : Receipt) → left ≡ Some receipt.entry → receipt.index ≡ length old.journal →
      KeptStep Disk old event reply left new → (store ≡ None → JournalStep old event reply left new) →
      KeptReceiptStep (is_some store) old event reply (Some receipt) new
  kept_with None left receipt some index step plain = inl (legal, index, subst (λ (l : Option Entry). JournalStep old event reply l new) some (plain refl))
  kept_with (Some a) left receipt some index (inl s) plain = inl (legal, index, subst (λ (l : Option Entry). JournalStep old event reply l new) some s)
  kept_with (Some a) left receipt some index (inr away) plain = absurd (none-some receipt.entry (sym away.2 ∙ some))

limits_in : Content → Limits
limits_in c = c.limits

-- a step keeps the limits
pub keeps_limits : (old : Machine) (event : Event) (reply : Reply) (new : Machine) → Step old event reply new → new.limits ≡ old.limits
unfolding limits_in
keeps_limits old Look (Looked view) new s = ap limits_in s.1.1
keeps_limits old (Log asked) (Logged number line) new s = ap limits_in s.1.1
keeps_limits old (Commit basis change) (Done number) new s = ap limits_in s.1.2.2
keeps_limits old (Commit basis change) (Refused (Moved current)) new s = ap limits_in s.1.2
keeps_limits old (Undo basis) (Done number) new s = s.1.3.limits
keeps_limits old (Undo basis) (Refused (Moved current)) new s = ap limits_in s.1.2
keeps_limits old (Undo basis) (Refused NothingToUndo) new s = ap limits_in s.1.2
keeps_limits old (Redo basis) (Done number) new s = sym s.1.3.limits
keeps_limits old (Redo basis) (Refused (Moved current)) new s = ap limits_in s.1.2
keeps_limits old (Redo basis) (Refused NothingToRedo) new s = ap limits_in s.1.2
keeps_limits old Take (Taken job) new s = ap limits_in s.1.1
keeps_limits old Take (Refused NoJob) new s = ap limits_in s.1.1
keeps_limits old (Deliver job built) (Back NoJob back unit) new s = ap limits_in s.1.2
keeps_limits old (Deliver job built) (Refused (Stale current)) new s = ap limits_in s.1.2.2
keeps_limits old (Deliver job built) (Refused Already) new s = ap limits_in s.1.2.2
keeps_limits old (Deliver job built) (Done number) new s = ap limits_in s.1.3.4
keeps_limits old (GiveBack job) (Back NoJob back unit) new s = ap limits_in s.1.2
keeps_limits old (GiveBack job) (Done number) new s = ap limits_in s.1.1.2
keeps_limits old event (Refused Memory) new s = ap (λ (x : Machine). x.limits) s.1
keeps_limits old event (Refused JournalFull) new s = ap (λ (x : Machine). x.limits) s.2
keeps_limits old event (Back Memory job unit) new s = ap (λ (x : Machine). x.limits) s.2
keeps_limits old event (Back JournalFull job unit) new s = ap (λ (x : Machine). x.limits) s.2
keeps_limits old event reply new s = absurd s.1

-- a step whose change may be kept keeps the limits
pub kept_limits : (old : Machine) (event : Event) (reply : Reply) (left : Option Entry) (new : Machine) → KeptStep Disk old event reply left new →
    new.limits ≡ old.limits
kept_limits old event reply left new (inl s) = keeps_limits old event reply new s.0
kept_limits old event reply left new (inr away) = ap (λ (m : Machine). m.limits) away.3

-- and gives a reply that its event may get
pub kept_may : (old : Machine) (event : Event) (reply : Reply) (left : Option Entry) (new : Machine) → KeptStep Disk old event reply left new →
    MayReply event reply
kept_may old event reply left new (inl s) = may_reply old event reply new s.0
kept_may old event reply left new (inr away) = subst (λ (r : Reply). MayReply event r) (sym away.0) (refused_may event Disk)
