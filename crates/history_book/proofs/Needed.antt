-- The room that an event needs in the journal, from the facts that are known before its answer.
use Rattle.std.proofs.Common.{◌≡◌, ℕ, ◌+◌, ◌≤◌, ◌↔◌, inr, inl, Bool, true, false, IsTrue, refl, sym, subst, ⊎_elim, arith}
use Rattle.std.proofs.lemmas.Bool.{false≢true}
use Rattle.build_unit.specs.Jobs.{JobsOut}
use Rattle.history_machine.specs.declared.entry.EntryKind.{EntryKind}
use Rattle.history_machine.specs.declared.event.Event.{Event}
use Rattle.history_machine.specs.declared.event.Event.TheVariants.{Look, Log, Commit, Undo, Redo, Take, Deliver, GiveBack}
use Rattle.history_book.specs.declared.question.Asked.{Asked}
use Rattle.history_book.specs.Needed.{entries_for, entries_needed}
use Rattle.history_machine.specs.Journal.{event_kind}
use Rattle.history_machine.specs.Machine.{Machine}
use Rattle.history_machine.specs.Step.{BringsOut, HasPlace, HasRoom, entries_due}
use Rattle.history_machine.proofs.Stepped.{place_made, place_there}

place_for : (most due : ℕ) (out : JobsOut) (event : Event) (is_out : Bool) → (IsTrue is_out ↔ BringsOut out event) → due ≤ most →
    (HasPlace most due out event ↔ (due + entries_for is_out (event_kind event) ≤ most))
place_for most due out Look true is within = absurd (is.0 refl)
place_for most due out (Log asked) true is within = absurd (is.0 refl)
place_for most due out (Commit basis change) true is within = absurd (is.0 refl)
place_for most due out (Undo basis) true is within = absurd (is.0 refl)
place_for most due out (Redo basis) true is within = absurd (is.0 refl)
place_for most due out Take true is within = absurd (is.0 refl)
place_for most due out (Deliver job built) true is within = (λ h. omega (arith, within), λ h. inl (is.0 refl))
place_for most due out (GiveBack job) true is within = (λ h. omega (arith, within), λ h. inl (is.0 refl))
place_for most due out Look false is within = (λ h. h, λ h. h)
place_for most due out (Log asked) false is within = (λ h. h, λ h. h)
place_for most due out (Commit basis change) false is within = (λ h. h, λ h. h)
place_for most due out (Undo basis) false is within = (λ h. h, λ h. h)
place_for most due out (Redo basis) false is within = (λ h. h, λ h. h)
place_for most due out Take false is within = (λ h. h, λ h. h)
place_for most due out (Deliver job built) false is within = (λ h. ⊎_elim (λ o. absurd (false≢true (is.1 o))) (λ m. m) h, λ h. inr h)
place_for most due out (GiveBack job) false is within = (λ h. ⊎_elim (λ o. absurd (false≢true (is.1 o))) (λ m. m) h, λ h. inr h)

-- the journal has room for the entries of the event, or the event brings a Job that is out
pub place_now : (most due : ℕ) (out : JobsOut) (event : Event) (is_out : Bool) → (IsTrue is_out ↔ BringsOut out event) →
    ((IsTrue is_out → ⊥) → due + 2 ≤ most) → HasPlace most due out event
place_now most due out event true is more = place_there most due out event (is.0 refl)
place_now most due out event false is more = place_made most due out event (more (λ e. false≢true e))

pub room_is : (m : Machine) (event : Event) (asked : Asked) (needed : ℕ) → asked.kind ≡ event_kind event → (IsTrue asked.is_out ↔ BringsOut m.out event) →
    entries_due m ≤ m.limits.journal → needed ≡ entries_needed asked → (HasRoom m event ↔ (entries_due m + needed ≤ m.limits.journal))
room_is m event asked needed kind is within same =
    subst (λ (n : ℕ). HasRoom m event ↔ (entries_due m + n ≤ m.limits.journal)) (sym same)
    (subst (λ (k : EntryKind). HasRoom m event ↔ (entries_due m + entries_for asked.is_out k ≤ m.limits.journal)) (sym kind)
    (place_for m.limits.journal (entries_due m) m.out event asked.is_out is within))
