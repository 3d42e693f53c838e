-- The receipts that a call leaves at its seat.
use Rattle.std.proofs.Common.{◌≡◌, ◌+◌, ◌≤◌, ℕ, List, [], ◌∷◌, ◌++◌, inl, inr, Option, Some, None, Result, Ok, Err, refl, sym, ap, subst, ◌∙◌, arith}
use Rattle.std.proofs.Common.{⊎_elim}
use Rattle.std.proofs.lemmas.List.{append-nil}
use Rattle.std.proofs.lemmas.List.Elements.{All-cons, All-nil}
use Rattle.std.proofs.lemmas.Option.{none-some}
use Rattle.base_files.specs.declared.refusal.Refusal.{Refusal}
use Rattle.base_files.specs.declared.refusal.Refusal.TheVariants.{Memory, JournalFull}
use Rattle.history_book.specs.WorkLeft.{AreAllFinished, IsStuck}
use Rattle.history_machine.specs.declared.entry.Entry.{Entry}
use Rattle.history_machine.specs.declared.entry.Told.{Told}
use Rattle.history_machine.specs.declared.event.Event.{Event}
use Rattle.history_machine.specs.declared.event.Event.TheVariants.{Look, Take}
use Rattle.history_machine.specs.declared.event.Reply.{Reply}
use Rattle.history_machine.specs.declared.event.Reply.TheVariants.{Looked, Refused}
use Rattle.history_machine.specs.declared.view.View.{View}
use Rattle.history_machine.specs.Journal.{event_kind, told_of}
use Rattle.history_machine.specs.JournalSteps.{IsTurnedAway}
use Rattle.history_machine.specs.Machine.{Machine}
use Rattle.history_machine.specs.Step.{HasRoom, Step, entries_due, looked}
use Rattle.server_shared.specs.declared.receipt.Receipt.{Receipt}
use Rattle.server_shared.specs.Steps.{IsReceiptOf, IsReplayed, ReceiptStep}
use Rattle.server_shared.specs.Call.{Calls, Gains, IsBuilt, IsWaitLack, LooksBuilt, LooksOnceBuilt}

module _ (most : ℕ) where
  -- the entry of a receipt is of the event's kind
  kind_is : (event : Event) (reply : Reply) (receipt : Receipt) → IsReceiptOf most event reply receipt → receipt.entry.line.kind ≡ event_kind event
  kind_is event reply receipt is = ap (λ (x : Entry). x.line.kind) is.3.2.1.0.2

  -- a call gains receipts of its kind
  pub gains_of : (P : Receipt → Type 0) (old : List Receipt) (event : Event) (reply : Reply) (index : Option ℕ) (new : List Receipt)
      → ((receipt : Receipt) → receipt.entry.line.kind ≡ event_kind event → P receipt) → Calls most old event reply index new → Gains P old new
  gains_of P old event reply (Some index) new each calls =
      (calls.0 ∷ [], calls.3, All-cons P calls.0 [] (each calls.0 (kind_is event reply calls.0 calls.2)) (All-nil P))
  gains_of P old event reply None new each calls = ([], calls.1 ∙ sym (append-nil old), All-nil P)

  -- ---- looks
  refusal_in : Reply → Refusal
  refusal_in (Refused refusal) = refusal
  refusal_in reply = Memory

  -- a view is not turned away
  view_stays : (view : View) → IsTurnedAway Look (Looked view) → ⊥
  view_stays view away =
      none-some _ (sym (⊎_elim (λ (e : Looked view ≡ Refused Memory). ap told_of e) (λ (e : Looked view ≡ Refused JournalFull). ap told_of e) away))

  look_refused : (old : Machine) (refusal : Refusal) (new : Machine) (told : Told) → Step old Look (Refused refusal) new →
      told_of (Refused refusal) ≡ Some told → ⊥
  look_refused old Memory new told s is = none-some told is
  look_refused old JournalFull new told s is = none-some told is
  look_refused old refusal new told s is = s.1

  -- where a look has no room, a Take has none
  no_room : (m : Machine) → ¬ (HasRoom m Look) → ¬ (HasRoom m Take)
  no_room m none room = let two : entries_due m + 2 ≤ m.limits.journal = room in none (omega (arith, two))

  -- where a book turns a look away, memory is wanting, or its journal has no room
  lacks : (old : Machine) (refusal : Refusal) (new : Machine) → old.limits.journal ≡ most → ReceiptStep old Look (Refused refusal) None new →
      IsWaitLack most refusal
  unfolding refusal_in
  lacks old refusal new is step =
      let full : Refused refusal ≡ Refused JournalFull → IsWaitLack most refusal = λ e.
      let same : refusal ≡ JournalFull = ap refusal_in e in
      let kept : Step old Look (Refused JournalFull) new = subst (λ (x : Refusal). Step old Look (Refused x) new) same step.1.0 in
      inr (same, (old, is, step.0, no_room old kept.1)) in
      ⊎_elim (λ (e : Refused refusal ≡ Refused Memory). inl (ap refusal_in e)) full step.1.1.0

  -- the view of a look shows each package finished where it is so in the book
  shows_built : (old new : Machine) (view : View) → AreAllFinished old.current → Step old Look (Looked view) new → IsBuilt view
  shows_built old new view all s = subst (λ (v : View). IsBuilt v) (sym s.1.0.0) all

  -- what a look shows of a book whose packages are finished
  pub looked_built : (old new : Machine) (answer : Result View Refusal) (kept : Option Receipt) → old.limits.journal ≡ most → AreAllFinished old.current →
      ReceiptStep old Look (looked answer) kept new
      → LooksBuilt most answer kept
  looked_built old new (Ok view) (Some receipt) is all s = ((old, new, is, s), shows_built old new view all s.2.0)
  looked_built old new (Ok view) None is all s = view_stays view s.1.1.0
  looked_built old new (Err refusal) (Some receipt) is all s = look_refused old refusal new s.2.1.0.0 s.2.0 s.2.1.0.1
  looked_built old new (Err refusal) None is all s = lacks old refusal new is s

  -- what is told of a wait whose packages can't be built
  pub stuck_lacks : (m : Machine) (refusal : Refusal) → m.limits.journal ≡ most → IsReplayed m → (refusal ≡ JournalFull) × IsStuck m → IsWaitLack most refusal
  stuck_lacks m refusal is legal stuck = inr (stuck.0, (m, is, legal, stuck.1.1))

  -- a wait at a seat, without a receipt and with one
  pub waited_none : (old : List Receipt) (shown : Result View Refusal) (kept : Option Receipt) (new : List Receipt) → kept ≡ None → new ≡ old →
      LooksBuilt most shown kept
      → LooksOnceBuilt most old shown new
  waited_none old (Ok view) kept new none same looked = absurd (subst (LooksBuilt most (Ok view)) none looked)
  waited_none old (Err refusal) kept new none same looked = (subst (LooksBuilt most (Err refusal)) none looked, same)

  pub waited_once : (old : List Receipt) (shown : Result View Refusal) (kept : Option Receipt) (receipt : Receipt) (new : List Receipt) → kept ≡ Some receipt →
      new ≡ old ++ receipt ∷ []
      → LooksBuilt most shown kept → LooksOnceBuilt most old shown new
  waited_once old (Ok view) kept receipt new some gained looked =
      let is = subst (LooksBuilt most (Ok view)) some looked in ((receipt.index, (receipt, refl, is.0, gained)), is.1)
  waited_once old (Err refusal) kept receipt new some gained looked = absurd (subst (LooksBuilt most (Err refusal)) some looked)
