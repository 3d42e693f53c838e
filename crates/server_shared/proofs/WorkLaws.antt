-- The receipts that a worker's calls leave at its seat.
use Rattle.std.proofs.Common.{ℕ, zero, suc, List, [], ◌∷◌, Option, Some, None, MatchOption, true, inl, inr, sym, ap, subst, ◌∙◌, refl, ◌≡◌}
use Rattle.std.proofs.lemmas.List.{append-nil}
use Rattle.std.proofs.lemmas.List.Elements.{All-cons, All-nil}
use Rattle.std.proofs.lemmas.Option.{none-some, same_Some}
use Rattle.base_files.specs.declared.refusal.Refusal.TheVariants.{Memory}
use Rattle.build_unit.specs.declared.job.JobRecord.{JobRecord}
use Rattle.history_machine.specs.declared.entry.Entry.{Entry}
use Rattle.history_machine.specs.declared.entry.EntryKind.{EntryKind}
use Rattle.history_machine.specs.declared.entry.EntryKind.TheVariants as kind
use Rattle.history_machine.specs.declared.entry.Told.{Told}
use Rattle.history_machine.specs.declared.entry.Told.TheVariants as told
use Rattle.history_machine.specs.declared.event.Event.{Event}
use Rattle.history_machine.specs.declared.event.Event.TheVariants.{Take, Deliver, GiveBack}
use Rattle.history_machine.specs.declared.event.Reply.{Reply}
use Rattle.history_machine.specs.declared.event.Reply.TheVariants.{Taken, Refused}
use Rattle.history_machine.specs.Journal.{event_kind}
use Rattle.server_shared.specs.declared.receipt.Receipt.{Receipt}
use Rattle.server_shared.specs.Call.{Calls, CallsWith, Gains}
use Rattle.server_shared.specs.Steps.{IsReceiptOf}
use Rattle.server_shared.specs.Working.{CallsEvent, GivesJobBack, HandsIn, IsWork, TakesTurn, TakesTurns, is_work}
use Rattle.server_shared.specs.declared.work_turn.WorkTurn.{WorkTurn}
use Rattle.server_shared.proofs.CallLaws.{gains_of}
use Rattle.server_shared.proofs.GainsLaws.{gains_more}

module _ (most : ℕ) where
  -- a call that hands a Job in gains receipts of work
  works : (old : List Receipt) (event : Event) (reply : Reply) (index : Option ℕ) (new : List Receipt) →
      ((out : Told) → is_work (event_kind event) out ≡ true) → Calls most old event reply index new → Gains IsWork old new
  works old event reply index new work calls = gains_of most IsWork old event reply index new
      (λ receipt is. ap (λ (k : EntryKind). is_work k receipt.entry.line.out) is ∙ work receipt.entry.line.out) calls

  sent_gains : (old : List Receipt) (event : Event) (new : List Receipt) → ((out : Told) → is_work (event_kind event) out ≡ true) →
      CallsEvent (CallsWith most) old event new → Gains IsWork old new
  sent_gains old event new work sent = works old event sent.0 sent.1.0 new work sent.1.1

  no_gain : (old new : List Receipt) → new ≡ old → Gains IsWork old new
  no_gain old new same = ([], same ∙ sym (append-nil old), All-nil IsWork)

  -- the receipt of a Take that handed out a Job is one of work
  taken_works : (job : JobRecord) (receipt : Receipt) → IsReceiptOf most Take (Taken job) receipt → IsWork receipt
  taken_works job receipt is =
      let kept = is.3.2.1.0 in
      let out : told.Done job.number ≡ kept.0 = same_Some (told.Done job.number) kept.0 kept.1 in
      let here : is_work kind.Take kept.0 ≡ true = subst (λ (t : Told). is_work kind.Take t ≡ true) out refl in
      subst (λ (x : Entry). is_work x.line.kind x.line.out ≡ true) (sym kept.2) here

  takes : (old : List Receipt) (job : JobRecord) (index : Option ℕ) (new : List Receipt) → Calls most old Take (Taken job) index new → Gains IsWork old new
  takes old job (Some index) new calls =
      (calls.0 ∷ [], calls.3, All-cons IsWork calls.0 [] (taken_works job calls.0 calls.2) (All-nil IsWork))
  takes old job None new calls = no_gain old new calls.1

  -- a Take that is refused for want of memory leaves no receipt
  lacks_gain : (old : List Receipt) (index : Option ℕ) (new : List Receipt) → Calls most old Take (Refused Memory) index new → Gains IsWork old new
  lacks_gain old (Some index) new calls = let kept = calls.2.3.2.1.0 in absurd (none-some kept.0 kept.1)
  lacks_gain old None new calls = no_gain old new calls.1

  back_gains : (old : List Receipt) (job : JobRecord) (new : List Receipt) → GivesJobBack (CallsWith most) old job new → Gains IsWork old new
  back_gains old job new (inl back) = sent_gains old (GiveBack job) new (λ out. refl) back
  back_gains old job new (inr d) =
      gains_more IsWork old d.2.1 new (works old (Deliver job d.0) d.2.0 d.2.3.0 d.2.1 (λ out. refl) d.2.3.1) (sent_gains d.2.1 (GiveBack job) new (λ out.
      refl) d.2.4)

  handed_gains : (old : List Receipt) (job : JobRecord) (turn : WorkTurn) (new : List Receipt) → HandsIn (CallsWith most) old job turn new →
      Gains IsWork old new
  handed_gains old job turn new (inl d) = works old (Deliver job d.1.0) d.1.2.0 d.1.2.2.0 new (λ out. refl) d.1.2.2.1
  handed_gains old job turn new (inr back) = back_gains old job new back.1

  turn_gains : (old : List Receipt) (turn : WorkTurn) (new : List Receipt) → TakesTurn (CallsWith most) old turn new → Gains IsWork old new
  turn_gains old turn new (inl r) = lacks_gain old r.1.0 new r.1.1
  turn_gains old turn new (inr t) =
      gains_more IsWork old t.1 new (takes old t.0 t.2.0 t.1 t.2.1) (handed_gains t.1 t.0 turn new t.3)

  -- a worker gains receipts of work alone
  pub turns_gain : (turns : ℕ) (old new : List Receipt) → TakesTurns (CallsWith most) turns old new → Gains IsWork old new
  turns_gain zero old new same = no_gain old new same
  turns_gain (suc n) old new w = gains_more IsWork old w.0 new (turns_gain n old w.0 w.1) (turn_gains w.0 w.2.0 new w.2.1)

-- A turn of a caller, seen as a turn of what the caller shows. The caller has a name that no step changes.
module _ {C E : Type 0} (steps : C → Event → Reply → C → Type 0) (shown : E → Event → Reply → E → Type 0) (name : C → ℕ) (show : C → E)
    (step : (old : C) (event : Event) (reply : Reply) (new : C) → steps old event reply new → (name new ≡ name old) × shown (show old) event reply (show
    new)) where
  called : (old : C) (event : Event) (new : C) → CallsEvent steps old event new → (name new ≡ name old) × CallsEvent shown (show old) event (show new)
  called old event new h = let k = step old event h.0 new h.1 in (k.0, (h.0, k.1))

  returned : (old : C) (job : JobRecord) (new : C) → GivesJobBack steps old job new → (name new ≡ name old) × GivesJobBack shown (show old) job (show new)
  returned old job new (inl back) = let k = called old (GiveBack job) new back in (k.0, inl k.1)
  returned old job new (inr d) =
      let k = step old (Deliver job d.0) d.2.0 d.2.1 d.2.3 in
      let l = called d.2.1 (GiveBack job) new d.2.4 in
      (l.0 ∙ k.0, inr (d.0, d.1, (d.2.0, show d.2.1, d.2.2, k.1, l.1)))

  handed : (old : C) (job : JobRecord) (turn : WorkTurn) (new : C) → HandsIn steps old job turn new →
      (name new ≡ name old) × HandsIn shown (show old) job turn (show new)
  handed old job turn new (inl d) =
      let k = step old (Deliver job d.1.0) d.1.2.0 new d.1.2.2 in (k.0, inl (d.0, (d.1.0, d.1.1, (d.1.2.0, d.1.2.1, k.1))))
  handed old job turn new (inr back) = let k = returned old job new back.1 in (k.0, inr (back.0, k.1))

  turned : (old : C) (turn : WorkTurn) (new : C) → TakesTurn steps old turn new → (name new ≡ name old) × TakesTurn shown (show old) turn (show new)
  turned old turn new (inl r) = let k = step old Take (Refused Memory) new r.1 in (k.0, inl (r.0, k.1))
  turned old turn new (inr t) =
      let k = step old Take (Taken t.0) t.1 t.2 in
      let l = handed t.1 t.0 turn new t.3 in
      (l.0 ∙ k.0, inr (t.0, show t.1, k.1, l.1))

  -- what is shown at last is that of a caller that kept its name
  pub turn_shown : (old : C) (turn : WorkTurn) (new : C) → TakesTurn steps old turn new → (first last : E) → first ≡ show old →
      (name new ≡ name old → last ≡ show new) → TakesTurn shown first turn last
  turn_shown old turn new t first last from is =
      let k = turned old turn new t in
      subst (λ (a : E). TakesTurn shown a turn last) (sym from) (subst (λ (b : E). TakesTurn shown (show old) turn b) (sym (is k.0)) k.1)

  -- the same, where the caller may rest in place of a turn
  pub turn_or_rest_shown : (rests : C → C → Type 0) → ((old new : C) → rests old new → (name new ≡ name old) × (show new ≡ show old))
      → (old : C) (turn : Option WorkTurn) (new : C) → MatchOption turn (rests old new) (λ t. TakesTurn steps old t new)
      → (first last : E) → first ≡ show old → (name new ≡ name old → last ≡ show new)
      → MatchOption turn (last ≡ first) (λ t. TakesTurn shown first t last)
  turn_or_rest_shown rests keeps old None new rest first last from is = let k = keeps old new rest in is k.0 ∙ (k.1 ∙ sym from)
  turn_or_rest_shown rests keeps old (Some t) new taken first last from is = turn_shown old t new taken first last from is
