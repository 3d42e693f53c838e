-- What a store holds stays the changes of the book's history.
use Rattle.std.proofs.Common.{◌≡◌, ℕ, Bool, true, false, List, [], ◌∷◌, ◌++◌, Option, Some, None, append_assoc, refl, sym, ap, subst, inl, inr, ◌∙◌}
use Rattle.std.proofs.Common.{Result, Ok, Err, IfErr, IfOk}
use mathlib.Core.Logic.{∥∥₁_map}
use Rattle.std.specs.Prelude.{◌⊎◌, IsSome, option_map, option_to_list}
use Rattle.std.proofs.lemmas.Bool.{false≢true}
use Rattle.std.proofs.lemmas.List.{append-nil}
use Rattle.std.proofs.lemmas.Option.{none-some, same_Some}
use Rattle.base_files.specs.declared.limits.Limits.{Limits}
use Rattle.base_files.specs.declared.refusal.Refusal.{Refusal}
use Rattle.base_files.specs.declared.refusal.Refusal.TheVariants.{Memory, JournalFull}
use Rattle.build_unit.specs.Jobs.{JobsOut}
use Rattle.history_machine.specs.JournalSteps.{IsTurnedAway, JournalStep}
use Rattle.history_machine.specs.Journal.{told_of}
use Rattle.history_machine.specs.Machine.{Machine, content}
use Rattle.history_machine.specs.MayReply.{MayReply}
use Rattle.history_machine.specs.Step.{BringsOut, Step, refused}
use Rattle.history_machine.specs.declared.entry.Entry.{Entry}
use Rattle.history_machine.specs.declared.entry.Reason.{Reason}
use Rattle.history_machine.specs.declared.entry.Told.{Told}
use Rattle.history_machine.specs.declared.entry.Told.TheVariants as told
use Rattle.history_machine.specs.declared.event.Event.{Event}
use Rattle.history_machine.specs.declared.event.Event.TheVariants.{Commit, Undo, Redo, Deliver, GiveBack}
use Rattle.history_machine.specs.declared.event.Reply.{Reply}
use Rattle.history_machine.specs.declared.event.Reply.TheVariants.{Done, Refused}
use Rattle.history_machine.proofs.Replies.{may_reply}
use Rattle.history_records.specs.Encoded.{IsKeptChange, change_bytes}
use Rattle.history_records.specs.Records.{FitsRecord, record_bytes, records_bytes}
use Rattle.history_records.specs.declared.change.KeptChange.{KeptChange}
use Rattle.history_records.proofs.Coded.{all_more}
use Rattle.law_changes.specs.Changes.{HasChanges, change_asked, change_done, states_kept}
use Rattle.law_changes.proofs.Going.{changes_go_on}
use Rattle.server_journal.specs.Keeping.{AreKeptBytes, Intends, IsDoneEntry, IsIntended, IsNeedless, KeepsChanges}
use Rattle.server_journal.specs.Recovered.{IsPossible}
use Rattle.server_journal.specs.Stores.{FailsToKeep, Grows, HoldsBytes, KeepsUnlessLost, Returns}
use Rattle.server_journal.specs.declared.kept.KeptFault.{KeptFault}
use Rattle.server_journal.specs.declared.kept.KeptFault.TheVariants as fault
use Rattle.server_journal.proofs.Recovering.{are_more}
use Rattle.server_journal.proofs.Repeated.{done_possible}
use Rattle.server_journal.proofs.Stored.{cut_back, grows_in_part}

-- ---- which events ask for changes

-- an event that asks for a change hands in no Job
pub asks_no_job : (out : JobsOut) (event : Event) → IsSome (change_asked event) → BringsOut out event → ⊥
asks_no_job out (Deliver job built) asks brings = false≢true asks
asks_no_job out (GiveBack job) asks brings = false≢true asks
asks_no_job out event asks brings = brings

-- an event that is no change at hand needs no record
pub asks_none : (old : Machine) (event : Event) → change_asked event ≡ None → IsNeedless old event
asks_none old event none (Done number) new step = none
asks_none old event none reply new step = refl

pub asks_other : (old : Machine) (event : Event) (change : KeptChange) → change_asked event ≡ Some change →
    (IsPossible change (states_kept (content old)) → ⊥) → IsNeedless old event
asks_other old event change is not (Done number) new step = absurd (not (done_possible old new event number change is step))
asks_other old event change is not reply new step = refl

-- what holds for each event that asks for a change holds for this one
pub of_event : {E A : Type 0} (P : E → Bool → Type 0) (Q : E → Type 0) (answer : Result Bool A) (event : E) → Q event →
    IfOk answer (λ added. (e : E) → Q e → P e added) → IfOk answer (P event)
of_event P Q (Ok added) event asks all = all event asks
of_event P Q (Err fault) event asks all = tt

pub if_err : {T E P : Type 0} (r : Result T E) → P → IfErr r (λ _. P)
if_err (Ok value) p = tt
if_err (Err error) p = p

-- ---- whether a change was done, by its entry

not_refused : (reason : Option Reason) (number : ℕ) → option_map (λ why. told.Refused why) reason ≡ Some (told.Done number) → ⊥
not_refused None number is = none-some (told.Done number) is
not_refused (Some why) number is = let e : told.Refused why ≡ told.Done number = same_Some (told.Refused why) (told.Done number) is in cc

refused_none : (event : Event) (refusal : Refusal) → change_done (refused event refusal) event ≡ None
refused_none (Deliver job built) refusal = refl
refused_none (GiveBack job) refusal = refl
refused_none event refusal = refl

turned_none : (event : Event) (reply : Reply) → IsTurnedAway event reply → change_done reply event ≡ None
turned_none event reply away = elim away [
  | inl lacks ↦ ap (λ (r : Reply). change_done r event) lacks ∙ refused_none event Memory
  | inr full ↦ ap (λ (r : Reply). change_done r event) full ∙ refused_none event JournalFull
]

-- a change whose reply tells that it was done is done
change_of_reply : (event : Event) (reply : Reply) (number : ℕ) (change : KeptChange) → MayReply event reply → change_asked event ≡ Some change →
    told_of reply ≡ Some (told.Done number) → change_done reply event ≡ Some change
change_of_reply event (Done n) number change may is tells = is
change_of_reply (Commit basis made) (Refused why) number change may is tells = absurd (not_refused _ number tells)
change_of_reply (Undo basis) (Refused why) number change may is tells = absurd (not_refused _ number tells)
change_of_reply (Redo basis) (Refused why) number change may is tells = absurd (not_refused _ number tells)
change_of_reply (Commit basis made) reply number change may is tells = absurd may
change_of_reply (Undo basis) reply number change may is tells = absurd may
change_of_reply (Redo basis) reply number change may is tells = absurd may
change_of_reply event reply number change may is tells = absurd (none-some change is)

pub done_change : (old : Machine) (event : Event) (reply : Reply) (left : Option Entry) (new : Machine) (change : KeptChange) →
    JournalStep old event reply left new →
    IsDoneEntry left → change_asked event ≡ Some change → change_done reply event ≡ Some change
done_change old event reply None new change step done is = absurd done
done_change old event reply (Some entry) new change step done is =
    let tells : told_of reply ≡ Some (told.Done done.0) =
    step.1.0.1 ∙ ap (λ (t : Told). Some t) (sym (ap (λ (e : Entry). e.line.out) step.1.0.2) ∙ done.1) in
    change_of_reply event reply done.0 change (may_reply old event reply new step.0) is tells

-- where the entry tells of nothing that was done, no change was
none_of_reply : (event : Event) (reply : Reply) (t : Told) → told_of reply ≡ Some t → ((number : ℕ) → t ≡ told.Done number → ⊥) → change_done reply event ≡ None
none_of_reply event (Done number) t tells not = absurd (not number (sym (same_Some (told.Done number) t tells)))
none_of_reply event reply t tells not = refl

pub no_change_done : (old : Machine) (event : Event) (reply : Reply) (left : Option Entry) (new : Machine) → JournalStep old event reply left new →
    (IsDoneEntry left → ⊥) → change_done reply event ≡ None
no_change_done old event reply None new step not = turned_none event reply step.1.0
no_change_done old event reply (Some entry) new step not =
    none_of_reply event reply step.1.0.0 step.1.0.1
    (λ number is. not (number, ap (λ (e : Entry). e.line.out) step.1.0.2 ∙ is))

told_or_not : (t : Told) → ((number : ℕ) × (t ≡ told.Done number)) ⊎ ((number : ℕ) × (t ≡ told.Done number) → ⊥)
told_or_not (told.Done number) = inl (number, refl)
told_or_not (told.Refused why) = inr (λ done. not_refused (Some why) done.0 (ap (λ (t : Told). Some t) done.1))

-- an entry tells of something that was done, or not
done_or_not : (left : Option Entry) → IsDoneEntry left ⊎ (IsDoneEntry left → ⊥)
done_or_not None = inr (λ done. done)
done_or_not (Some entry) = told_or_not entry.line.out

-- a store that was cut back, or given up
pub back_or_lost : (is_back : Bool) (mid after : Option (List ℕ)) (mid_lost is_lost : Bool) (n : ℕ) → (is_back ≡ true → Returns mid n after) →
    (is_back ≡ true → is_lost ≡ mid_lost) → (is_back ≡ false → is_lost ≡ true) → (is_lost ≡ true) ⊎ (Returns mid n after × (is_lost ≡ mid_lost))
back_or_lost true mid after mid_lost is_lost n back unlost lost = inr (back refl, unlost refl)
back_or_lost false mid after mid_lost is_lost n back unlost lost = inl (lost refl)

-- ---- the store and the history

pub records_more : (records : List (List ℕ)) (r : List ℕ) → records_bytes (records ++ r ∷ []) ≡ records_bytes records ++ record_bytes r
records_more [] r = append-nil (record_bytes r)
records_more (first ∷ records) r =
    ap (λ (x : List ℕ). record_bytes first ++ x) (records_more records r) ∙ sym (append_assoc (record_bytes first) (records_bytes records) (record_bytes r))

module _ (heading : List ℕ) (limits : Limits) where
  -- a step that is no change that is done
  pub needless_keeps : (holds : Option (List ℕ)) (is_lost : Bool) (old : Machine) (event : Event) (reply : Reply) (new : Machine) →
      KeepsChanges heading limits holds is_lost old → Step old event reply new → change_done reply event ≡ None → KeepsChanges heading limits holds is_lost new
  needless_keeps holds true old event reply new keeps step none = tt
  needless_keeps None false old event reply new keeps step none = tt
  needless_keeps (Some bytes) false old event reply new keeps step none = (
    keeps.0,
    keeps.1,
    ∥∥₁_map keeps.2 (λ (has : HasChanges limits keeps.0 old).
        subst (λ (cs : List KeptChange). HasChanges limits cs new) (ap (λ (o : Option KeptChange). keeps.0 ++ option_to_list o) none ∙ append-nil keeps.0)
        (changes_go_on limits keeps.0 old new event reply has step)),
  )

  bytes_more : (bytes : List ℕ) (changes : List KeptChange) (change : KeptChange) → AreKeptBytes heading bytes changes → IsKeptChange change →
      FitsRecord (change_bytes change) → AreKeptBytes heading (bytes ++ record_bytes (change_bytes change)) (changes ++ change ∷ [])
  bytes_more bytes changes change are is fits = (
    are.0 ++ change_bytes change ∷ [],
    are_more are.0 changes (change_bytes change) change are.1 (is, refl),
    all_more FitsRecord (heading ∷ are.0) (change_bytes change) are.2 fits,
    ap (λ (x : List ℕ). x ++ record_bytes (change_bytes change)) are.3 ∙ sym (records_more (heading ∷ are.0) (change_bytes change)),
  )

  -- the change whose record was added is done
  done_keeps : (before after : Option (List ℕ)) (old : Machine) (event : Event) (reply : Reply) (new : Machine) (change : KeptChange) →
      Grows before (record_bytes (change_bytes change)) after → IsKeptChange change → FitsRecord (change_bytes change) →
      KeepsChanges heading limits before false old → Step old event reply new → change_done reply event ≡ Some change →
      KeepsChanges heading limits after false new
  done_keeps None after old event reply new change grows is fits keeps step done =
      subst (λ (o : Option (List ℕ)). KeepsChanges heading limits o false new) (sym grows) tt
  done_keeps (Some bytes) after old event reply new change grows is fits keeps step done =
      subst (λ (o : Option (List ℕ)). KeepsChanges heading limits o false new) (sym grows) (
        keeps.0 ++ change ∷ [],
        bytes_more bytes keeps.0 change keeps.1 is fits,
        ∥∥₁_map keeps.2 (λ (has : HasChanges limits keeps.0 old).
            subst (λ (o : Option KeptChange). HasChanges limits (keeps.0 ++ option_to_list o) new) done
            (changes_go_on limits keeps.0 old new event reply has step)),
      )

  pub intended_keeps : (before after : Option (List ℕ)) (was_lost is_lost : Bool) (old : Machine) (event : Event) (reply : Reply) (new : Machine)
      (change : KeptChange) → Intends before after was_lost is_lost change → KeepsChanges heading limits before was_lost old → Step old event reply new →
      change_done reply event ≡ Some change → KeepsChanges heading limits after is_lost new
  intended_keeps before after was_lost is_lost old event reply new change intends keeps step done =
      subst (λ (b : Bool). KeepsChanges heading limits after b new) (sym intends.is_open)
      (done_keeps before after old event reply new change intends.grows intends.kept intends.fits
      (subst (λ (b : Bool). KeepsChanges heading limits before b old) intends.was_open keeps) step done)

  -- a store that was given up keeps nothing of which this is said
  pub lost_keeps : (holds : Option (List ℕ)) (is_lost : Bool) (book : Machine) → is_lost ≡ true → KeepsChanges heading limits holds is_lost book
  lost_keeps holds is_lost book lost = subst (λ (b : Bool). KeepsChanges heading limits holds b book) (sym lost) tt

  -- the record was taken away
  pub back_keeps : (before mid after : Option (List ℕ)) (was_lost mid_lost is_lost : Bool) (n : ℕ) (old : Machine) (event : Event) (reply : Reply) (new :
      Machine)
      (change : KeptChange) → KeepsUnlessLost was_lost before n → Intends before mid was_lost mid_lost change →
      (is_lost ≡ true) ⊎ (Returns mid n after × (is_lost ≡ mid_lost)) → KeepsChanges heading limits before was_lost old → Step old event reply new →
      change_done reply event ≡ None → KeepsChanges heading limits after is_lost new
  back_keeps before mid after was_lost mid_lost is_lost n old event reply new change counted intends back keeps step none = elim back [
    | inl lost ↦ lost_keeps after is_lost new lost
    | inr returns ↦
        let held : HoldsBytes before n = counted intends.was_open in
        let same = cut_back before mid after n held (grows_in_part before mid (record_bytes (change_bytes change)) intends.grows) returns.0 in
        let still : is_lost ≡ was_lost = returns.1 ∙ intends.is_open ∙ sym intends.was_open in
        subst (λ (o : Option (List ℕ)). KeepsChanges heading limits o is_lost new) (sym same)
        (subst (λ (b : Bool). KeepsChanges heading limits before b new) (sym still)
        (needless_keeps before was_lost old event reply new keeps step none))
  ]

  -- ---- the cases of a step whose changes are kept

  -- the same store, and the same book
  same_keeps : (before after : Option (List ℕ)) (was_lost is_lost : Bool) (book : Machine) → after ≡ before → is_lost ≡ was_lost →
      KeepsChanges heading limits before was_lost book → KeepsChanges heading limits after is_lost book
  same_keeps before after was_lost is_lost book same still keeps =
      subst (λ (o : Option (List ℕ)). KeepsChanges heading limits o is_lost book) (sym same)
      (subst (λ (b : Bool). KeepsChanges heading limits before b book) (sym still) keeps)

  pub fails_keeps : (why : KeptFault) (before after : Option (List ℕ)) (was_lost is_lost : Bool) (book : Machine) →
      FailsToKeep why before after was_lost is_lost → KeepsChanges heading limits before was_lost book → KeepsChanges heading limits after is_lost book
  fails_keeps fault.Memory before after was_lost is_lost book fails keeps = same_keeps before after was_lost is_lost book fails.0 fails.1 keeps
  fails_keeps fault.Refused before after was_lost is_lost book fails keeps = same_keeps before after was_lost is_lost book fails.0 fails.1 keeps
  fails_keeps fault.Lost before after was_lost is_lost book fails keeps = lost_keeps after is_lost book fails

  pub unneeded_keeps : (before after : Option (List ℕ)) (was_lost is_lost : Bool) (old : Machine) (event : Event) (reply : Reply) (left : Option Entry)
      (new : Machine) → IsIntended old event before after was_lost is_lost false → JournalStep old event reply left new →
      KeepsChanges heading limits before was_lost old → KeepsChanges heading limits after is_lost new
  unneeded_keeps before after was_lost is_lost old event reply left new intended step keeps =
      same_keeps before after was_lost is_lost new intended.1 intended.2
      (needless_keeps before was_lost old event reply new keeps step.0 (intended.0 reply new step.0))

  pub made_keeps : (before mid after : Option (List ℕ)) (was_lost mid_lost is_lost : Bool) (n : ℕ) (old : Machine) (event : Event) (reply : Reply)
      (left : Option Entry) (new : Machine) → KeepsUnlessLost was_lost before n → IsIntended old event before mid was_lost mid_lost true →
      JournalStep old event reply left new → (IsDoneEntry left → (after ≡ mid) × (is_lost ≡ mid_lost)) →
      ((IsDoneEntry left → ⊥) → (is_lost ≡ true) ⊎ (Returns mid n after × (is_lost ≡ mid_lost))) →
      KeepsChanges heading limits before was_lost old → KeepsChanges heading limits after is_lost new
  made_keeps before mid after was_lost mid_lost is_lost n old event reply left new counted intended step stays back keeps =
      elim (done_or_not left) [
        | inl done ↦ same_keeps mid after mid_lost is_lost new (stays done).0 (stays done).1
            (intended_keeps before mid was_lost mid_lost old event reply new intended.0 intended.2 keeps step.0
            (done_change old event reply left new intended.0 step done intended.1.0))
        | inr not ↦ back_keeps before mid after was_lost mid_lost is_lost n old event reply new intended.0 counted intended.2 (back not) keeps step.0
            (no_change_done old event reply left new step not)
      ]
