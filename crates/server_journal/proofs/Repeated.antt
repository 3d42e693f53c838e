-- When a change can be made once more, and when not.
use Rattle.std.proofs.Common.{◌≡◌, ◌≢◌, ◌↔◌, ◌<◌, Bool, IsTrue, ℕ, List, [], ◌∷◌, ◌++◌, Some, length, length-append, map, refl, sym, ap, subst, ◌∙◌, arith}
use Rattle.std.specs.Prelude.{IfErr, IsOk, OnOk, Result, Ok, Err}
use Rattle.std.proofs.lemmas.Bool.{false≢true}
use Rattle.std.proofs.lemmas.List.{length-map, map-append}
use Rattle.std.proofs.lemmas.Option.{none-some, same_Some}
use Rattle.base_edits.specs.EditSet.{FileChanges}
use Rattle.base_edits.specs.Fits.{Fits}
use Rattle.base_files.specs.Workspace.{Workspace}
use Rattle.base_files.specs.declared.refusal.Refusal.{Refusal}
use Rattle.base_files.specs.declared.refusal.Refusal.TheVariants.{Memory, JournalFull, Moved, NothingToUndo, NothingToRedo}
use Rattle.history_machine.specs.Machine.{Machine, content}
use Rattle.history_machine.specs.State.{State}
use Rattle.history_machine.specs.Step.{Step, done}
use Rattle.history_machine.specs.declared.event.Event.{Event}
use Rattle.history_machine.specs.declared.event.Event.TheVariants as event
use Rattle.history_machine.specs.declared.event.Reply.TheVariants.{Done, Refused}
use Rattle.history_records.specs.Asked.{basis_of}
use Rattle.history_records.specs.Encoded.{AreBytesOf}
use Rattle.history_records.specs.declared.change.KeptChange.{KeptChange}
use Rattle.history_records.specs.declared.change.KeptChange.TheVariants.{Commit, Undo, Redo}
use Rattle.history_records.proofs.Parts.{one_change_of_bytes}
use Rattle.law_changes.specs.Changes.{KeptStates, change_asked, change_done, state_kept, states_kept}
use Rattle.law_changes.proofs.Made.{step_limits}
use Rattle.server_journal.specs.Recovered.{FailsAtRecord, FailsToRepeat, IsForGood, IsPossible, Repeats}
use Rattle.server_journal.specs.declared.repeating.RecoveryFault.{RecoveryFault}
use Rattle.server_journal.specs.declared.repeating.RecoveryFault.TheVariants.{Full, NoHistory, Memory as MemoryWanting}
use Rattle.workspace_snapshot.specs.declared.change.Change.{Change}

-- ---- a change that is made was possible

not_nothing : (xs : List State) (x : State) (ys : List State) → ys ≡ xs ++ x ∷ [] → map state_kept ys ≢ []
not_nothing xs x ys is none =
    omega (
      arith,
      ap length (sym none ∙ ap (λ (zs : List State). map state_kept zs) is ∙ map-append state_kept xs (x ∷ [])),
      length-append (map state_kept xs) (state_kept x ∷ []),
    )

-- what an event that is done, and is a change, needs
pub done_possible : (old new : Machine) (asked : Event) (number : ℕ) (change : KeptChange) → change_done (Done number) asked ≡ Some change →
    Step old asked (Done number) new → IsPossible change (states_kept (content old))
done_possible old new (event.Commit basis made) number change is step =
    subst (λ (c : KeptChange). IsPossible c (states_kept (content old))) (same_Some (Commit basis made.edits) change is)
    (step.1.0.0.0, subst (λ (w : Workspace). Fits made.edits w) step.1.0.0.1 step.1.0.1.fits)
done_possible old new (event.Undo basis) number change is step =
    subst (λ (c : KeptChange). IsPossible c (states_kept (content old))) (same_Some (Undo basis) change is)
    (step.1.0, not_nothing new.earlier new.current old.earlier step.1.3.earlier)
done_possible old new (event.Redo basis) number change is step =
    subst (λ (c : KeptChange). IsPossible c (states_kept (content old))) (same_Some (Redo basis) change is)
    (step.1.0, not_nothing new.later new.current old.later step.1.3.later)
done_possible old new asked number change is step = absurd (none-some change is)

pub repeated_possible : (old new : Machine) (change : KeptChange) → Repeats old change new → IsPossible change (states_kept (content old))
repeated_possible old new change r = done_possible old new r.0 r.1 change r.2 r.3

-- ---- a change that is refused for good was not possible

pub commit_refused : (old new : Machine) (basis : ℕ) (made : Change) (why : Refusal) → made.base ≡ old.current.files →
    Step old (event.Commit basis made) (Refused why) new → IsForGood why → IsPossible (Commit basis made.edits) (states_kept (content old)) → ⊥
commit_refused old new basis made Memory base step good possible = good
commit_refused old new basis made JournalFull base step good possible = good
commit_refused old new basis made (Moved current) base step good possible = step.1.0 (possible.0, base)
commit_refused old new basis made why base step good possible = absurd step.1

pub undo_refused : (old new : Machine) (basis : ℕ) (why : Refusal) → Step old (event.Undo basis) (Refused why) new → IsForGood why →
    IsPossible (Undo basis) (states_kept (content old)) → ⊥
undo_refused old new basis Memory step good possible = good
undo_refused old new basis JournalFull step good possible = good
undo_refused old new basis (Moved current) step good possible = step.1.0 possible.0
undo_refused old new basis NothingToUndo step good possible = possible.1 (ap (λ (xs : List State). map state_kept xs) step.1.1)
undo_refused old new basis why step good possible = absurd step.1

pub redo_refused : (old new : Machine) (basis : ℕ) (why : Refusal) → Step old (event.Redo basis) (Refused why) new → IsForGood why →
    IsPossible (Redo basis) (states_kept (content old)) → ⊥
redo_refused old new basis Memory step good possible = good
redo_refused old new basis JournalFull step good possible = good
redo_refused old new basis (Moved current) step good possible = step.1.0 possible.0
redo_refused old new basis NothingToRedo step good possible = possible.1 (ap (λ (xs : List State). map state_kept xs) step.1.1)
redo_refused old new basis why step good possible = absurd step.1

-- ---- what the answer to a change that is made once more tells

-- a refusal that is neither for want of memory nor of room
pub is_for_good : (why : Refusal) → (why ≡ Memory → ⊥) → (why ≡ JournalFull → ⊥) → IsForGood why
is_for_good Memory not_memory not_full = not_memory refl
is_for_good JournalFull not_memory not_full = not_full refl
is_for_good why not_memory not_full = tt

pub done_again : (old new : Machine) (asked : Event) (change : KeptChange) (answer : Result ℕ Refusal) (result : Result (Unit {0}) RecoveryFault) →
    change_asked asked ≡ Some change → Step old asked (done answer) new → IsOk result ↔ IsOk answer → OnOk result (Repeats old change new)
done_again old new asked change (Ok number) (Ok u) is step same = (asked, number, is, step)
done_again old new asked change (Err why) (Ok u) is step same = absurd (false≢true (same.0 refl))
done_again old new asked change answer (Err fault) is step same = tt

pub fails_again : (old new : Machine) (asked : Event) (change : KeptChange) (answer : Result ℕ Refusal) (result : Result (Unit {0}) RecoveryFault) →
    ((why : Refusal) → Step old asked (Refused why) new → IsForGood why → IsPossible change (states_kept (content old)) → ⊥) →
    Step old asked (done answer) new → IsOk result ↔ IsOk answer → (result ≡ Err NoHistory → IfErr answer IsForGood) →
    IfErr result (FailsToRepeat old change)
fails_again old new asked change answer (Ok u) refused step same good = tt
fails_again old new asked change answer (Err MemoryWanting) refused step same good = tt
fails_again old new asked change answer (Err Full) refused step same good = tt
fails_again old new asked change (Ok number) (Err NoHistory) refused step same good = absurd (false≢true (same.1 refl))
fails_again old new asked change (Err why) (Err NoHistory) refused step same good = refused why step (good refl)

-- the change of a record is not made once more where the one that it has is not
pub fails_at : (old : Machine) (held : List ℕ) (change : KeptChange) (fault : RecoveryFault) → AreBytesOf held change → FailsToRepeat old change fault →
    FailsAtRecord old held fault
fails_at old held change MemoryWanting is fails = tt
fails_at old held change Full is fails = tt
fails_at old held change NoHistory is fails = λ other are possible.
    fails (subst (λ (c : KeptChange). IsPossible c (states_kept (content old))) (one_change_of_bytes held other change are is) possible)

pub repeated_limits : (old new : Machine) (change : KeptChange) → Repeats old change new → new.limits ≡ old.limits
repeated_limits old new change r = step_limits old r.0 (Done r.1) new r.3

-- ---- whether a change is possible

pub possible_basis : (change : KeptChange) (states : KeptStates) → IsPossible change states → basis_of change ≡ states.current.0
possible_basis (Commit basis edits) states possible = possible.0
possible_basis (Undo basis) states possible = possible.0
possible_basis (Redo basis) states possible = possible.0

pub commit_possible : (m : Machine) (basis : ℕ) (edits : FileChanges) (b : Bool) → basis ≡ m.current.number → IsTrue b ↔ Fits edits m.current.files →
    IsTrue b ↔ IsPossible (Commit basis edits) (states_kept (content m))
commit_possible m basis edits b is test = ((λ e. (is, test.0 e)), (λ possible. test.1 possible.1))

some_kept : (xs : List State) → 0 < length xs → map state_kept xs ≢ []
some_kept xs some none = omega (arith, some, ap length none, length-map xs state_kept)

some_there : (xs : List State) → map state_kept xs ≢ [] → 0 < length xs
some_there [] some = absurd (some refl)
some_there (x ∷ xs) some = omega arith

pub undo_possible : (m : Machine) (basis : ℕ) (b : Bool) → basis ≡ m.current.number → IsTrue b ↔ (0 < length m.earlier) →
    IsTrue b ↔ IsPossible (Undo basis) (states_kept (content m))
undo_possible m basis b is test = ((λ e. (is, some_kept m.earlier (test.0 e))), (λ possible. test.1 (some_there m.earlier possible.1)))

pub redo_possible : (m : Machine) (basis : ℕ) (b : Bool) → basis ≡ m.current.number → IsTrue b ↔ (0 < length m.later) →
    IsTrue b ↔ IsPossible (Redo basis) (states_kept (content m))
redo_possible m basis b is test = ((λ e. (is, some_kept m.later (test.0 e))), (λ possible. test.1 (some_there m.later possible.1)))
