-- The changes of records, made once more one after the other.
use Rattle.std.proofs.Common.{◌≡◌, ◌+◌, ◌<◌, ℕ, List, [], ◌∷◌, ◌++◌, Option, Some, None, drop}
use Rattle.std.proofs.Common.{get_or, map, slice_index_or, length, take, refl, sym, ap, subst, inl, inr, ◌∙◌, arith}
use mathlib.Core.HLevel.{⊥_prop}
use mathlib.Core.Logic.{∥∥₁_elim, ∥∥₁_map}
use Rattle.std.specs.Prelude.{◌⊎◌, option_to_list}
use Rattle.std.specs.List.{cons_option}
use Rattle.std.proofs.lemmas.List.{drop_more, map-append, take-append-drop, take_more}
use Rattle.std.proofs.lemmas.Option.{none-some}
use Rattle.base_files.specs.declared.limits.Limits.{Limits}
use Rattle.history_machine.specs.Chapters.{Occurrence, RunsOver}
use Rattle.history_machine.specs.Machine.{Machine, closed, content, opening}
use Rattle.history_machine.specs.Step.{Step}
use Rattle.history_machine.specs.declared.entry.Entry.{Entry}
use Rattle.history_machine.specs.declared.event.Event.{Event}
use Rattle.history_machine.specs.declared.event.Reply.{Reply}
use Rattle.history_machine.specs.declared.event.Reply.TheVariants.{Done}
use Rattle.history_records.specs.Encoded.{AreBytesOf}
use Rattle.history_records.specs.declared.change.KeptChange.{KeptChange}
use Rattle.history_records.proofs.Parts.{one_change_of_bytes}
use Rattle.law_changes.specs.Changes.{HasChanges, change_done, changes_among, states_kept}
use Rattle.law_changes.proofs.Going.{changes_go_on, changes_go_on_over_borders, no_changes_at_first}
use Rattle.law_changes.proofs.Made.{same_changes_same_states}
use Rattle.server_journal.specs.Laws.{StoppedHasNoHistory}
use Rattle.server_journal.specs.Recovered.{AreRecordedChanges, FailsAtRecord, FailsToRecover, IsPossible, IsRecovered, Repeats}
use Rattle.server_journal.specs.declared.repeating.RecoveryFault.{RecoveryFault}
use Rattle.server_journal.specs.declared.repeating.RecoveryFault.TheVariants.{Full, Memory, NoHistory}
use Rattle.server_journal.proofs.Repeated.{repeated_possible}

-- ---- lists of changes

pub are_more : (records : List (List ℕ)) (changes : List KeptChange) (held : List ℕ) (change : KeptChange) → AreRecordedChanges records changes →
    AreBytesOf held change → AreRecordedChanges (records ++ held ∷ []) (changes ++ change ∷ [])
are_more [] [] held change are is = (is, tt)
are_more [] (c ∷ changes) held change are is = absurd are
are_more (r ∷ records) [] held change are is = absurd are
are_more (r ∷ records) (c ∷ changes) held change are is = (are.0, are_more records changes held change are.1 is)

pub one_list : (records : List (List ℕ)) (one other : List KeptChange) → AreRecordedChanges records one → AreRecordedChanges records other → one ≡ other
one_list [] [] [] p q = refl
one_list [] [] (c ∷ other) p q = absurd q
one_list [] (c ∷ one) other p q = absurd p
one_list (r ∷ records) [] other p q = absurd p
one_list (r ∷ records) (c ∷ one) [] p q = absurd q
one_list (r ∷ records) (c ∷ one) (d ∷ other) p q =
    let heads = one_change_of_bytes r c d p.0 q.0 in
    let tails = one_list records one other p.1 q.1 in
    λ i. heads i ∷ tails i

-- the changes of records before one of them, its change, and those behind it
record SplitsAt (front : List (List ℕ)) (held : List ℕ) (changes : List KeptChange) : Type 0 where
  before : List KeptChange
  change : KeptChange
  behind : List KeptChange
  joined : changes ≡ before ++ change ∷ behind
  are : AreRecordedChanges front before
  is : AreBytesOf held change

split_at : (front : List (List ℕ)) (r : List ℕ) (rest : List (List ℕ)) (changes : List KeptChange) → AreRecordedChanges (front ++ r ∷ rest) changes →
    SplitsAt front r changes
split_at [] r rest [] are = absurd are
split_at [] r rest (c ∷ changes) are = record { before = []; change = c; behind = changes; joined = refl; are = tt; is = are.0 }
split_at (f ∷ front) r rest [] are = absurd are
split_at (f ∷ front) r rest (c ∷ changes) are =
    let more = split_at front r rest changes are.1 in
    record {
      before = c ∷ more.before;
      change = more.change;
      behind = more.behind;
      joined = ap (λ (cs : List KeptChange). c ∷ cs) more.joined;
      are = (are.0, more.are);
      is = more.is;
    }

-- ---- a history is cut before a change

-- a history that leads to where the next change is made
record CutsBefore (old : Machine) (before : List KeptChange) (change : KeptChange) : Type 0 where
  course : List Occurrence
  journals : List (List Entry)
  mid : Machine
  runs : RunsOver old course journals mid
  changes : changes_among course ≡ before
  next : Machine
  repeats : Repeats mid change next

done_of : (old new : Machine) (asked : Event) (reply : Reply) (change : KeptChange) → change_done reply asked ≡ Some change → Step old asked reply new →
    Repeats old change new
done_of old new asked (Done number) change is step = (asked, number, is, step)
done_of old new asked reply change is step = absurd (none-some change is)

head_change : (c d : KeptChange) (xs ys : List KeptChange) → c ∷ xs ≡ d ∷ ys → c ≡ d
head_change c d xs ys e = ap (λ (l : List KeptChange). slice_index_or l 0 c) e

tail_change : (c d : KeptChange) (xs ys : List KeptChange) → c ∷ xs ≡ d ∷ ys → xs ≡ ys
tail_change c d xs ys e = ap (λ (l : List KeptChange). drop 1 l) e

-- an event stands before what was cut
cut_behind : (old mid : Machine) (e : Event × Reply) (before : List KeptChange) (change : KeptChange) (o : Option KeptChange) → change_done e.1 e.0 ≡ o →
    Step old e.0 e.1 mid → CutsBefore mid before change → CutsBefore old (cons_option o before) change
cut_behind old mid e before change o is step cut = record {
  course = Some e ∷ cut.course;
  journals = cut.journals;
  mid = cut.mid;
  runs = (mid, step, cut.runs);
  changes = ap (λ (x : Option KeptChange). cons_option x (changes_among cut.course)) is ∙ ap (λ (cs : List KeptChange). cons_option o cs) cut.changes;
  next = cut.next;
  repeats = cut.repeats;
}

-- the event stands before what was cut, or is the change
cut_at_event : (old mid : Machine) (e : Event × Reply) (later : List KeptChange) (change : KeptChange) (behind : List KeptChange) (o : Option KeptChange) →
    change_done e.1 e.0 ≡ o → Step old e.0 e.1 mid → (before : List KeptChange) → cons_option o later ≡ before ++ change ∷ behind →
    ((b : List KeptChange) → later ≡ b ++ change ∷ behind → CutsBefore mid b change) → CutsBefore old before change
cut_at_event old mid e later change behind None is step before split more = cut_behind old mid e before change None is step (more before split)
cut_at_event old mid e later change behind (Some c) is step [] split more = record {
  course = [];
  journals = [];
  mid = old;
  runs = (refl, refl);
  changes = refl;
  next = mid;
  repeats = done_of old mid e.0 e.1 change (is ∙ ap Some (head_change c change later behind split)) step;
}
cut_at_event old mid e later change behind (Some c) is step (b ∷ before) split more =
    let cut = cut_behind old mid e before change (Some c) is step (more before (tail_change c b later (before ++ change ∷ behind) split)) in
    subst (λ (x : KeptChange). CutsBefore old (x ∷ before) change) (head_change c b later (before ++ change ∷ behind) split) cut

no_changes : (before : List KeptChange) (change : KeptChange) (behind : List KeptChange) → [] ≡ before ++ change ∷ behind → ⊥
no_changes [] change behind e = omega (arith, ap length e)
no_changes (b ∷ before) change behind e = omega (arith, ap length e)

cut_run : (old : Machine) (course : List Occurrence) (journals : List (List Entry)) (new : Machine) → RunsOver old course journals new →
    (change : KeptChange) (behind before : List KeptChange) → changes_among course ≡ before ++ change ∷ behind → CutsBefore old before change
cut_run old [] journals new h change behind before split = absurd (no_changes before change behind split)
cut_run old (None ∷ course) journals new h change behind before split =
    let cut = cut_run (closed old) course h.0 new h.2 change behind before split in
    record {
      course = None ∷ cut.course;
      journals = old.journal ∷ cut.journals;
      mid = cut.mid;
      runs = (cut.journals, refl, cut.runs);
      changes = cut.changes;
      next = cut.next;
      repeats = cut.repeats;
    }
cut_run old (Some e ∷ course) journals new h change behind before split =
    cut_at_event old h.0 e (changes_among course) change behind (change_done e.1 e.0) refl h.1 before split
    (cut_run h.0 course journals new h.2 change behind)

-- ---- one record further

-- a history goes on with a change that is made once more
has_more : (limits : Limits) (changes : List KeptChange) (old mid new : Machine) (change : KeptChange) → Repeats old change mid →
    (new ≡ mid) ⊎ (new ≡ closed mid) → HasChanges limits changes old → HasChanges limits (changes ++ change ∷ []) new
has_more limits changes old mid new change repeats closes has =
    let on = changes_go_on limits changes old mid repeats.0 (Done repeats.1) has repeats.3 in
    let one = subst (λ (o : Option KeptChange). HasChanges limits (changes ++ option_to_list o) mid) repeats.2 on in
    elim closes [
      | inl same ↦ subst (HasChanges limits (changes ++ change ∷ [])) (sym same) one
      | inr over ↦ subst (HasChanges limits (changes ++ change ∷ [])) (sym over) (changes_go_on_over_borders limits (changes ++ change ∷ []) mid one)
    ]

pub recovered_none : (limits : Limits) (m : Machine) → m ≡ opening limits → IsRecovered limits [] m
recovered_none limits m is = ([], tt, ∣ subst (HasChanges limits []) (sym is) (no_changes_at_first limits) ∣₁)

pub recovered_more : (limits : Limits) (records : List (List ℕ)) (old mid new : Machine) (held : List ℕ) → IsRecovered limits records old →
    (change : KeptChange) × AreBytesOf held change × Repeats old change mid → (new ≡ mid) ⊎ (new ≡ closed mid) →
    IsRecovered limits (records ++ held ∷ []) new
recovered_more limits records old mid new held is repeated closes = (
  is.0 ++ repeated.0 ∷ [],
  are_more records is.0 held repeated.0 is.1 repeated.1,
  ∥∥₁_map is.2 (λ (has : HasChanges limits is.0 old). has_more limits is.0 old mid new repeated.0 repeated.2 closes has),
)

-- a record whose change is not possible, behind those that led to the book
pub stops : (limits : Limits) (records : List (List ℕ)) (book : Machine) (held : List ℕ) (rest : List (List ℕ)) → IsRecovered limits records book →
    ((change : KeptChange) → AreBytesOf held change → IsPossible change (states_kept (content book)) → ⊥) →
    (changes : List KeptChange) → AreRecordedChanges (records ++ held ∷ rest) changes → (m : Machine) → HasChanges limits changes m → ⊥
stops limits records book held rest is not changes are m has =
    let parts = split_at records held rest changes are in
    let cut = cut_run (opening limits) has.0 has.1 m has.2 parts.change parts.behind parts.before (has.3 ∙ parts.joined) in
    let same : parts.before ≡ is.0 = one_list records parts.before is.0 parts.are is.1 in
    let here : HasChanges limits is.0 cut.mid = (cut.course, cut.journals, cut.runs, cut.changes ∙ same) in
    ∥∥₁_elim is.2 ⊥_prop (λ (there : HasChanges limits is.0 book).
    not parts.change parts.is (subst (IsPossible parts.change) (same_changes_same_states limits is.0 cut.mid book here there)
    (repeated_possible cut.mid cut.next parts.change cut.repeats)))

pub stopped_has_no_history : StoppedHasNoHistory
stopped_has_no_history limits records at changes are m has =
    stops limits at.0 at.3 at.1 at.2 at.5 at.6 changes (subst (λ (rs : List (List ℕ)). AreRecordedChanges rs changes) at.4 are) m has

pub fails_at_record : (limits : Limits) (records : List (List ℕ)) (book : Machine) (held : List ℕ) (rest all : List (List ℕ)) (fault : RecoveryFault) →
    IsRecovered limits records book → FailsAtRecord book held fault → all ≡ records ++ held ∷ rest → FailsToRecover limits all fault
fails_at_record limits records book held rest all Memory is fails joined = tt
fails_at_record limits records book held rest all Full is fails joined = tt
fails_at_record limits records book held rest all NoHistory is fails joined = (records, held, rest, book, joined, is, fails)

-- want of memory, or of room, tells nothing of the records
pub fails_for_now : (limits : Limits) (records : List (List ℕ)) (fault : RecoveryFault) → (fault ≡ NoHistory → ⊥) → FailsToRecover limits records fault
fails_for_now limits records Memory not = tt
fails_for_now limits records Full not = tt
fails_for_now limits records NoHistory not = absurd (not refl)

-- ---- the records as they are read

module _ {A B : Type 0} (f : A → B) (xs : List A) (i : ℕ) (d : A) (lt : i < length xs) where
  -- the records as far as this one
  pub to_this_one : map f (take (i + 1) xs) ≡ map f (take i xs) ++ f (get_or xs i d) ∷ []
  to_this_one = ap (λ (ys : List A). map f ys) (take_more xs i d lt) ∙ map-append f (take i xs) (get_or xs i d ∷ [])

  -- those before it, it, and those behind it
  pub around_this_one : map f xs ≡ map f (take i xs) ++ f (get_or xs i d) ∷ map f (drop (i + 1) xs)
  around_this_one =
      ap (λ (ys : List A). map f ys) (sym (take-append-drop i xs)) ∙ map-append f (take i xs) (drop i xs)
      ∙ ap (λ (ys : List A). map f (take i xs) ++ map f ys) (drop_more xs i d lt)

-- a journal that is closed keeps the limits
pub closed_limits : (mid new : Machine) → (new ≡ mid) ⊎ (new ≡ closed mid) → new.limits ≡ mid.limits
closed_limits mid new closes = elim closes [
  | inl same ↦ ap (λ (m : Machine). m.limits) same
  | inr over ↦ ap (λ (m : Machine). m.limits) over
]
