-- From an answer to a step: the book adds the entry, and numbers, visits, tickets and Jobs stay within their bounds.
use Rattle.std.proofs.Common.{◌≡◌, ℕ, ◌+◌, ◌≤◌, ◌<◌, ◌⊎◌, inl, inr, List, [], ◌∷◌, ◌++◌, length, Option, MatchOption, Some, None, refl, sym, ap, subst, ◌∙◌}
use Rattle.std.proofs.Common.{⊎_elim, arith, length-append}
use Rattle.std.proofs.lemmas.List.Edits.{length-remove}
use Rattle.std.proofs.lemmas.List.Elements.{at_from_Contains}
use Rattle.std.proofs.lemmas.Option.{none-some, same_Some, slice_get_within}
use Rattle.base_files.specs.declared.refusal.Refusal.TheVariants.{Memory, Moved, NothingToUndo, NothingToRedo, JournalFull, Stale, Already, NoJob}
use Rattle.build_unit.specs.Jobs.{IsOut, JobsOut, RemovesJob, label_of}
use Rattle.build_unit.specs.declared.built.Built.{Built}
use Rattle.build_unit.specs.declared.job.JobRecord.{JobRecord}
use Rattle.history_machine.specs.declared.event.Event.{Event}
use Rattle.history_machine.specs.declared.event.Event.TheVariants.{Look, Log, Commit, Undo, Redo, Take, Deliver, GiveBack}
use Rattle.history_machine.specs.declared.event.Reply.{Reply}
use Rattle.history_machine.specs.declared.event.Reply.TheVariants.{Looked, Logged, Done, Taken, Refused, Back}
use Rattle.history_machine.specs.declared.entry.Entry.{Entry}
use Rattle.history_machine.specs.declared.entry.Told.{Told}
use Rattle.history_machine.specs.Journal.{Records, ShowsLine, entry_of, told_of}
use Rattle.history_machine.specs.Machine.{Content, Machine, content, with_journal}
use Rattle.history_machine.specs.Step.{Answers, BringsOut, HasPlace, HasRoom, EntersEvent, Step, entries_due, refused}

-- ---- the entry

-- an answered event has an entry
tells : (old : Content) (event : Event) (reply : Reply) (new : Content) → Answers old event reply new → (out : Told) × (told_of reply ≡ Some out)
tells old Look (Looked view) new a = (_, refl)
tells old (Log asked) (Logged number line) new a = (_, refl)
tells old (Commit basis change) (Done number) new a = (_, refl)
tells old (Commit basis change) (Refused (Moved current)) new a = (_, refl)
tells old (Undo basis) (Done number) new a = (_, refl)
tells old (Undo basis) (Refused (Moved current)) new a = (_, refl)
tells old (Undo basis) (Refused NothingToUndo) new a = (_, refl)
tells old (Redo basis) (Done number) new a = (_, refl)
tells old (Redo basis) (Refused (Moved current)) new a = (_, refl)
tells old (Redo basis) (Refused NothingToRedo) new a = (_, refl)
tells old Take (Taken job) new a = (_, refl)
tells old Take (Refused NoJob) new a = (_, refl)
tells old (Deliver job built) (Back NoJob back unit) new a = (_, refl)
tells old (Deliver job built) (Refused (Stale current)) new a = (_, refl)
tells old (Deliver job built) (Refused Already) new a = (_, refl)
tells old (Deliver job built) (Done number) new a = (_, refl)
tells old (GiveBack job) (Back NoJob back unit) new a = (_, refl)
tells old (GiveBack job) (Done number) new a = (_, refl)
tells old event reply new a = absurd a

matched : {T : Type 0} (o : Option T) (x : T) (P : Type 0) (Q : T → Type 0) → o ≡ Some x → MatchOption o P Q → Q x
matched None x P Q e m = absurd (none-some x e)
matched (Some y) x P Q e m = subst Q (same_Some y x e) m

records : (old : Content) (journal : List Entry) (event : Event) (reply : Reply) (new : Content) (journals : List Entry) → Answers old event reply new →
    ShowsLine old.begun journal event reply
    → MatchOption (told_of reply) (journals ≡ journal) (λ told. journals ≡ journal ++ entry_of old.current.number event reply told ∷ []) →
    Records old.current.number old.begun journal event reply journals
records old journal event reply new journals a shows has =
    let out = tells old event reply new a in
    record {
      out = out.0;
      tells = out.1;
      shows = shows;
      journal =
          matched (told_of reply) out.0 _ (λ told. journals ≡ journal ++ entry_of old.current.number event reply told ∷ []) out.1 has;
    }

-- ---- the step

same_machine : (old : Machine) (c : Content) (journal : List Entry) → c ≡ content old → journal ≡ old.journal → with_journal c journal ≡ old
same_machine old c journal is same = ap (λ (x : Content). with_journal x journal) is ∙ ap (λ entries. with_journal (content old) entries) same

no_room : (old : Content) (event : Event) (new : Content) → Answers old event (Refused JournalFull) new → ⊥
no_room old Look new a = a
no_room old (Log asked) new a = a
no_room old (Commit basis change) new a = a
no_room old (Undo basis) new a = a
no_room old (Redo basis) new a = a
no_room old Take new a = a
no_room old (Deliver job built) new a = a
no_room old (GiveBack job) new a = a

no_room_back : (old : Content) (event : Event) (job : JobRecord) (unit : Option Built) (new : Content) → Answers old event (Back JournalFull job unit) new → ⊥
no_room_back old Look job unit new a = a
no_room_back old (Log asked) job unit new a = a
no_room_back old (Commit basis change) job unit new a = a
no_room_back old (Undo basis) job unit new a = a
no_room_back old (Redo basis) job unit new a = a
no_room_back old Take job unit new a = a
no_room_back old (Deliver back built) job unit new a = a
no_room_back old (GiveBack back) job unit new a = a

-- an answered event with its entry is a step
pub kept_step : (old : Machine) (event : Event) (reply : Reply) (c : Content) (journal : List Entry) → HasRoom old event →
    EntersEvent (content old) old.journal event reply c journal → Step old event reply (with_journal c journal)
kept_step old event (Refused Memory) c journal room k = (k.0.0, same_machine old c journal k.0.1 k.2)
kept_step old event (Refused JournalFull) c journal room k = absurd (no_room (content old) event c k.0)
kept_step old event (Back Memory job unit) c journal room k = (k.0.0, k.0.1, same_machine old c journal k.0.2 k.2)
kept_step old event (Back JournalFull job unit) c journal room k = absurd (no_room_back (content old) event job unit c k.0)
kept_step old event reply c journal room k = (room, k.0, records (content old) old.journal event reply c journal k.0 k.1 k.2)

-- want of memory for the entry
pub lacking_step : (m : Machine) (event : Event) → (BringsOut m.out event → ⊥) → Step m event (refused event Memory) m
lacking_step m Look none = (λ brings. brings, refl)
lacking_step m (Log asked) none = (λ brings. brings, refl)
lacking_step m (Commit basis change) none = (λ brings. brings, refl)
lacking_step m (Undo basis) none = (λ brings. brings, refl)
lacking_step m (Redo basis) none = (λ brings. brings, refl)
lacking_step m Take none = (λ brings. brings, refl)
lacking_step m (Deliver job built) none = ((refl, refl), tt, refl)
lacking_step m (GiveBack job) none = ((refl, refl), none, refl)

pub full_step : (m : Machine) (event : Event) → (HasRoom m event → ⊥) → Step m event (refused event JournalFull) m
full_step m Look none = (λ brings. brings, none, refl)
full_step m (Log asked) none = (λ brings. brings, none, refl)
full_step m (Commit basis change) none = (λ brings. brings, none, refl)
full_step m (Undo basis) none = (λ brings. brings, none, refl)
full_step m (Redo basis) none = (λ brings. brings, none, refl)
full_step m Take none = (λ brings. brings, none, refl)
full_step m (Deliver job built) none = ((refl, refl), none, refl)
full_step m (GiveBack job) none = ((refl, refl), none, refl)

-- ---- places for entries
pub place_there : (most due : ℕ) (out : JobsOut) (event : Event) → BringsOut out event → HasPlace most due out event
place_there most due out Look brings = absurd brings
place_there most due out (Log asked) brings = absurd brings
place_there most due out (Commit basis change) brings = absurd brings
place_there most due out (Undo basis) brings = absurd brings
place_there most due out (Redo basis) brings = absurd brings
place_there most due out Take brings = absurd brings
place_there most due out (Deliver job built) brings = inl brings
place_there most due out (GiveBack job) brings = inl brings

pub place_made : (most due : ℕ) (out : JobsOut) (event : Event) → due + 2 ≤ most → HasPlace most due out event
place_made most due out Look more = omega (arith, more)
place_made most due out (Log asked) more = omega (arith, more)
place_made most due out (Commit basis change) more = omega (arith, more)
place_made most due out (Undo basis) more = omega (arith, more)
place_made most due out (Redo basis) more = omega (arith, more)
place_made most due out Take more = more
place_made most due out (Deliver job built) more = inr (omega (arith, more))
place_made most due out (GiveBack job) more = inr (omega (arith, more))

some_out : (out : JobsOut) (job : JobRecord) → IsOut out job → 1 ≤ length out.jobs
some_out out job has =
    let at = at_from_Contains out.jobs (label_of job) has in
    omega (arith, at.1)

one_of : (most entries jobs : ℕ) → 1 ≤ jobs → entries + jobs ≤ most → entries + 1 ≤ most
one_of most entries jobs some due = omega (arith, some, due)

-- one more entry has room
pub place_for_one : (most entries : ℕ) (out : JobsOut) (event : Event) → entries + length out.jobs ≤ most →
    HasPlace most (entries + length out.jobs) out event → entries + 1 ≤ most
place_for_one most entries out Look due has = omega (arith, has)
place_for_one most entries out (Log asked) due has = omega (arith, has)
place_for_one most entries out (Commit basis change) due has = omega (arith, has)
place_for_one most entries out (Undo basis) due has = omega (arith, has)
place_for_one most entries out (Redo basis) due has = omega (arith, has)
place_for_one most entries out Take due has = omega (arith, has)
place_for_one most entries out (Deliver job built) due has =
    ⊎_elim (λ is. one_of most entries (length out.jobs) (some_out out job is) due) (λ more. omega (arith, more)) has
place_for_one most entries out (GiveBack job) due has =
    ⊎_elim (λ is. one_of most entries (length out.jobs) (some_out out job is) due) (λ more. omega (arith, more)) has

-- ---- the bounds that the journal gives
record Fits (m : Machine) (most : ℕ) (c : Content) : Type 0 where
  next : c.next ≤ m.next + 1
  visit : c.visit ≤ m.visit + 1
  ticket : c.out.ticket ≤ m.out.ticket + 1
  room : length m.journal + 1 + length c.out.jobs ≤ most
  limits : c.limits ≡ m.limits
  begun : c.begun ≡ m.begun

module _ (m : Machine) (most : ℕ) (due : entries_due m ≤ most) where
  stays : (c : Content) → c ≡ content m → entries_due m + 1 ≤ most → Fits m most c
  stays c is room = subst (Fits m most) (sym is) (record
      { next = omega arith; visit = omega arith; ticket = omega arith; room = omega (arith, room); limits = refl; begun = refl })

  moves : (c : Content) → c.next ≡ m.next → c.visit ≡ m.visit + 1 → c.out ≡ m.out → c.limits ≡ m.limits → c.begun ≡ m.begun → entries_due m + 1 ≤ most →
      Fits m most c
  moves c next visit out limits begun room =
      let jobs : length c.out.jobs ≡ length m.out.jobs = ap (λ (o : JobsOut). length o.jobs) out in
      let ticket : c.out.ticket ≡ m.out.ticket = ap (λ (o : JobsOut). o.ticket) out in
      record {
        next = omega (arith, next);
        visit = omega (arith, visit);
        ticket = omega (arith, ticket);
        room = omega (arith, room, jobs);
        limits = limits;
        begun = begun;
      }

  spent : (job : JobRecord) (out : JobsOut) (c : Content) → RemovesJob m.out (label_of job) out → c.out ≡ out → c.next ≡ m.next → c.visit ≡ m.visit →
      c.limits ≡ m.limits → c.begun ≡ m.begun → Fits m most c
  spent job out c lost is next visit limits begun =
      let within : lost.place < length m.out.jobs = slice_get_within m.out.jobs lost.place (label_of job) lost.at in
      let less : length c.out.jobs + 1 ≡ length m.out.jobs = ap (λ (o : JobsOut). length o.jobs + 1) (is ∙ lost.others) ∙
      length-remove m.out.jobs lost.place within in
      let ticket : c.out.ticket ≡ m.out.ticket = ap (λ (o : JobsOut). o.ticket) (is ∙ lost.others) in
      record {
        next = omega (arith, next);
        visit = omega (arith, visit);
        ticket = omega (arith, ticket);
        room = omega (arith, due, less);
        limits = limits;
        begun = begun;
      }

  unknown : {A : Type 0} → ¬ A → A ⊎ (entries_due m + 1 ≤ most) → entries_due m + 1 ≤ most
  unknown none room = ⊎_elim (λ a. absurd (none a)) (λ h. h) room

  answer_fits : (event : Event) (reply : Reply) (c : Content) → HasPlace most (entries_due m) m.out event → Answers (content m) event reply c → Fits m most c
  answer_fits Look (Looked view) c room a = stays c a.1 room
  answer_fits (Log asked) (Logged number line) c room a = stays c a.1 room
  answer_fits (Commit basis change) (Done number) c room a =
      subst (Fits m most) (sym a.2.2) (record {
        next = omega arith;
        visit = omega arith;
        ticket = omega arith;
        room = omega (arith, room);
        limits = refl;
        begun = refl;
      })
  answer_fits (Commit basis change) (Refused (Moved current)) c room a = stays c a.2 room
  answer_fits (Undo basis) (Done number) c room a = moves c a.3.next a.2.visit a.2.out a.3.limits a.3.begun room
  answer_fits (Undo basis) (Refused (Moved current)) c room a = stays c a.2 room
  answer_fits (Undo basis) (Refused NothingToUndo) c room a = stays c a.2 room
  answer_fits (Redo basis) (Done number) c room a = moves c (sym a.3.next) a.2.visit a.2.out (sym a.3.limits) (sym a.3.begun) room
  answer_fits (Redo basis) (Refused (Moved current)) c room a = stays c a.2 room
  answer_fits (Redo basis) (Refused NothingToRedo) c room a = stays c a.2 room
  answer_fits Take (Taken job) c room a =
      let one : length (m.out.jobs ++ label_of job ∷ []) ≡ length m.out.jobs + 1 = length-append m.out.jobs (label_of job ∷ []) in
      subst (Fits m most) (sym a.1) (record {
        next = omega arith;
        visit = omega arith;
        ticket = omega arith;
        room = omega (arith, room, one);
        limits = refl;
        begun = refl;
      })
  answer_fits Take (Refused NoJob) c room a = stays c a.1 (omega (arith, room))
  answer_fits (Deliver job built) (Back NoJob back unit) c room a = stays c a.2 (unknown a.0 room)
  answer_fits (Deliver job built) (Refused (Stale current)) c room a =
      spent job a.2.0 c a.2.1 (ap (λ (x : Content). x.out) a.2.2) (ap (λ (x : Content). x.next) a.2.2) (ap (λ (x : Content). x.visit) a.2.2)
      (ap (λ (x : Content). x.limits) a.2.2) (ap (λ (x : Content). x.begun) a.2.2)
  answer_fits (Deliver job built) (Refused Already) c room a =
      spent job a.2.0 c a.2.1 (ap (λ (x : Content). x.out) a.2.2) (ap (λ (x : Content). x.next) a.2.2) (ap (λ (x : Content). x.visit) a.2.2)
      (ap (λ (x : Content). x.limits) a.2.2) (ap (λ (x : Content). x.begun) a.2.2)
  answer_fits (Deliver job built) (Done number) c room a =
      spent job a.3.0 c a.3.2 (ap (λ (x : Content). x.out) a.3.4) (ap (λ (x : Content). x.next) a.3.4) (ap (λ (x : Content). x.visit) a.3.4)
      (ap (λ (x : Content). x.limits) a.3.4) (ap (λ (x : Content). x.begun) a.3.4)
  answer_fits (GiveBack job) (Back NoJob back unit) c room a = stays c a.2 (unknown a.0 room)
  answer_fits (GiveBack job) (Done number) c room a =
      spent job a.1.0 c a.1.1 (ap (λ (x : Content). x.out) a.1.2) (ap (λ (x : Content). x.next) a.1.2) (ap (λ (x : Content). x.visit) a.1.2)
      (ap (λ (x : Content). x.limits) a.1.2) (ap (λ (x : Content). x.begun) a.1.2)
  answer_fits event reply c room a = absurd a

-- the event is answered and the journal gains its entry, or nothing changes
answered_or_same : (old : Content) (journal : List Entry) (event : Event) (reply : Reply) (new : Content) (journals : List Entry) →
    EntersEvent old journal event reply new journals
    → (Answers old event reply new × (length journals ≡ length journal + 1)) ⊎ ((new ≡ old) × (journals ≡ journal))
answered_or_same old journal event (Refused Memory) new journals k = inr (k.0.1, k.2)
answered_or_same old journal event (Back Memory job unit) new journals k = inr (k.0.2, k.2)
answered_or_same old journal event reply new journals k =
    inl (k.0, (let kept = records old journal event reply new journals k.0 k.1 k.2 in ap length kept.journal ∙ length-append journal _))

-- numbers, visits and tickets are at most as many as the entries of all journals, and the entries due are within the journal's limit
pub record AreBounded (c : Content) (entries most : ℕ) : Type 0 where
  pub next : c.next ≤ c.begun + entries + 1
  pub visit : c.visit ≤ c.begun + entries
  pub ticket : c.out.ticket ≤ c.begun + entries
  pub room : entries + length c.out.jobs ≤ most

pub kept_bounds : (old : Machine) (most : ℕ) (event : Event) (reply : Reply) (c : Content) (journal : List Entry) →
    AreBounded (content old) (length old.journal) most → HasPlace most (entries_due old) old.out event
    → EntersEvent (content old) old.journal event reply c journal →
    AreBounded c (length journal) most × (c.limits ≡ old.limits) × (c.begun ≡ old.begun)
kept_bounds old most event reply c journal bounds place k = ⊎_elim
    (λ (is : Answers (content old) event reply c × (length journal ≡ length old.journal + 1)).
    let fits = answer_fits old most bounds.room event reply c place is.0 in (
      record {
        next = omega (arith, fits.next, bounds.next, is.1, fits.begun);
        visit = omega (arith, fits.visit, bounds.visit, is.1, fits.begun);
        ticket = omega (arith, fits.ticket, bounds.ticket, is.1, fits.begun);
        room = omega (arith, fits.room, is.1);
      },
      fits.limits,
      fits.begun,
    ))
    (λ (is : (c ≡ content old) × (journal ≡ old.journal)). (
      subst (λ (x : Content). AreBounded x (length journal) most) (sym is.0)
          (subst (λ (entries : List Entry). AreBounded (content old) (length entries) most) (sym is.1) bounds),
      ap (λ (x : Content). x.limits) is.0,
      ap (λ (x : Content). x.begun) is.0,
    ))
    (answered_or_same (content old) old.journal event reply c journal k)
