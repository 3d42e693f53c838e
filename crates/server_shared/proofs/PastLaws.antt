-- The chapters that were closed, as a book goes on and closes one more, and the receipts that were handed in.
use Rattle.std.proofs.Common.{◌≡◌, ℕ, List, [], ◌∷◌, ◌++◌, Some, None, IsPermutation, flat_map, length, map, refl, sym, ap, subst, ◌∙◌}
use Rattle.std.proofs.Common.{◌+◌, zero, suc, append-nil, append_assoc, length-append, arith}
use Rattle.std.proofs.lemmas.Grind.{flat_map-append}
use Rattle.std.proofs.lemmas.List.Elements.{All-nil, All-push}
use Rattle.std.proofs.lemmas.List.Sorted.{IsPermutation-append_left, IsPermutation-refl, IsPermutation-trans}
use Rattle.base_files.specs.declared.limits.Limits.{Limits}
use Rattle.history_machine.specs.Chapters.{HasHistory, Occurrence, RunsOver, all_entries}
use Rattle.history_machine.specs.Machine.{Machine, closed, opening}
use Rattle.history_machine.specs.Step.{Step}
use Rattle.history_machine.specs.declared.entry.Entry.{Entry}
use Rattle.history_machine.specs.declared.event.Event.{Event}
use Rattle.history_machine.specs.declared.event.Reply.{Reply}
use Rattle.history_machine.proofs.Reaching.{closes_on, runs_on, runs_over, step_begun, whole_run}
use Rattle.server_shared.specs.Past.{AreSettled, HasPast, IsHandedIn, PastChapter, from_behind, past_journals}
use Rattle.server_shared.specs.Settled.{IsSettled}
use Rattle.server_shared.specs.declared.receipt.Receipt.{Receipt}

joined : List (List Receipt) → List Receipt
joined pieces = flat_map (λ (piece : List Receipt). piece) pieces

module _ (P : List Receipt → Type 0) where
  -- ---- receipts that were handed in
  pub handed_none : IsHandedIn P []
  handed_none = ([], IsPermutation-refl [], All-nil P)

  pub handed_more : (receipts piece : List Receipt) → IsHandedIn P receipts → P piece → IsHandedIn P (receipts ++ piece)
  unfolding joined
  handed_more receipts piece h p =
      let one : joined (piece ∷ []) ≡ piece = append-nil piece in
      let all : joined (h.0 ++ piece ∷ []) ≡ joined h.0 ++ piece =
      flat_map-append (λ (x : List Receipt). x) h.0 (piece ∷ []) ∙ ap (λ (x : List Receipt). joined h.0 ++ x) one in (
        h.0 ++ piece ∷ [],
        subst (λ (x : List Receipt). IsPermutation x (receipts ++ piece)) (sym all)
            (IsPermutation-append_left piece (joined h.0) receipts h.1),
        All-push P h.0 piece h.2 p,
      )

  pub handed_sorted : (receipts sorted : List Receipt) → IsPermutation receipts sorted → IsHandedIn P receipts → IsHandedIn P sorted
  unfolding joined
  handed_sorted receipts sorted same h = (h.0, IsPermutation-trans (joined h.0) receipts sorted h.1 same, h.2)

  -- ---- chapters
  journals_on : (chapters : List PastChapter) (chapter : PastChapter) → past_journals (chapters ++ chapter ∷ []) ≡ past_journals chapters ++ chapter.0 ∷ []
  journals_on [] chapter = refl
  journals_on (c ∷ chapters) chapter = ap (λ (js : List (List Entry)). c.0 ∷ js) (journals_on chapters chapter)

  behind_on : (before : List (List Entry)) (chapters : List PastChapter) (chapter : PastChapter) →
      before ++ past_journals (chapters ++ chapter ∷ []) ≡ (before ++ past_journals chapters) ++ chapter.0 ∷ []
  behind_on before chapters chapter =
      ap (λ (js : List (List Entry)). before ++ js) (journals_on chapters chapter) ∙ sym (append_assoc before (past_journals chapters) (chapter.0 ∷ []))

  whole_behind : (chapters : List PastChapter) → from_behind 0 chapters ≡ 0
  whole_behind [] = refl
  whole_behind (c ∷ chapters) = refl

  settled_on : (from : ℕ) (chapters : List PastChapter) (chapter : PastChapter) → AreSettled P from chapters →
      IsSettled (from_behind from chapters) chapter.0 chapter.1 → IsHandedIn P chapter.1 → AreSettled P from (chapters ++ chapter ∷ [])
  settled_on from [] chapter before settled handed = (settled, handed, tt)
  settled_on from (c ∷ chapters) chapter before settled handed = (
    before.0,
    before.1,
    settled_on 0 chapters chapter before.2
        (subst (λ (n : ℕ). IsSettled n chapter.0 chapter.1) (sym (whole_behind chapters)) settled) handed,
  )

  begins_on : (from : ℕ) (chapters : List PastChapter) (chapter : PastChapter) → 0 ≡ from_behind from (chapters ++ chapter ∷ [])
  begins_on from [] chapter = refl
  begins_on from (c ∷ chapters) chapter = refl

  pub past_on : (begun first from : ℕ) (old new : Machine) (event : Event) (reply : Reply) → new.limits ≡ old.limits → Step old event reply new →
      HasPast P begun first from old → HasPast P begun first from new
  past_on begun first from old new event reply limits step past =
      let course = past.course ++ Some (event, reply) ∷ [] in
      record {
        before = past.before;
        earlier = past.earlier;
        none = past.none;
        chapters = past.chapters;
        settled = past.settled;
        begins = past.begins;
        course = course;
        runs = subst (λ (l : Limits). RunsOver (opening l) course (past.before ++ past_journals past.chapters) new) (sym limits)
            (runs_on (opening old.limits) past.course (past.before ++ past_journals past.chapters) old event reply new past.runs step);
      }

  pub past_closed : (begun first from : ℕ) (m : Machine) (receipts : List Receipt) → HasPast P begun first from m → IsSettled from m.journal receipts →
      IsHandedIn P receipts → HasPast P begun first 0 (closed m)
  past_closed begun first from m receipts past settled handed =
      let chapter : PastChapter = (m.journal, receipts) in
      let course = past.course ++ None ∷ [] in
      record {
        before = past.before;
        earlier = past.earlier;
        none = past.none;
        chapters = past.chapters ++ chapter ∷ [];
        settled = settled_on first past.chapters chapter past.settled
            (subst (λ (n : ℕ). IsSettled n m.journal receipts) past.begins settled) handed;
        begins = begins_on first past.chapters chapter;
        course = course;
        runs = subst (λ (js : List (List Entry)). RunsOver (opening m.limits) course js (closed m)) (sym (behind_on past.before past.chapters chapter))
            (closes_on (opening m.limits) past.course (past.before ++ past_journals past.chapters) m past.runs);
      }

  -- the entries of the journals that a run closes are counted
  counts_closed : (old : Machine) (course : List Occurrence) (journals : List (List Entry)) (new : Machine) → RunsOver old course journals new →
      new.begun ≡ old.begun + length (all_entries journals)
  counts_closed old [] journals new h =
      omega (arith, ap (λ (m : Machine). m.begun) h.1, ap (λ (js : List (List Entry)). length (all_entries js)) h.0)
  counts_closed old (None ∷ course) journals new h =
      let rest = counts_closed (closed old) course h.0 new h.2 in
      let all = ap (λ (js : List (List Entry)). length (all_entries js)) h.1 in
      omega (arith, rest, all, length-append old.journal (all_entries h.0))
  counts_closed old (Some e ∷ course) journals new h =
      let rest = counts_closed h.0 course journals new h.2 in
      omega (arith, rest, step_begun old e.0 e.1 h.0 h.1)

  -- a book that was not shared before, and that closed journals with so many entries
  past_after : (begun : ℕ) (m : Machine) → m.begun ≡ begun → HasHistory m → HasPast P begun (length m.journal) (length m.journal) m
  past_after zero m is history =
      let run = whole_run m is history in
      record {
        before = [];
        earlier = refl;
        none = λ _. refl;
        chapters = [];
        settled = tt;
        begins = refl;
        course = map Some run.0;
        runs = runs_over (opening m.limits) run.0 m run.1;
      }
  past_after (suc n) m is history = record {
    before = history.1;
    earlier = let counted : m.begun ≡ 0 + length (all_entries history.1) = counts_closed (opening m.limits) history.0 history.1 m history.2 in
        omega (arith, is, counted);
    none = λ e. absurd (omega (arith, e));
    chapters = [];
    settled = tt;
    begins = refl;
    course = history.0;
    runs = subst (λ (js : List (List Entry)). RunsOver (opening m.limits) history.0 js m) (sym (append-nil history.1)) history.2;
  }

  pub past_opened : (m : Machine) → HasHistory m → HasPast P m.begun (length m.journal) (length m.journal) m
  past_opened m history = past_after m.begun m refl history

pub past_reached : (P : List Receipt → Type 0) (begun first from : ℕ) (m : Machine) → HasPast P begun first from m → HasHistory m
past_reached P begun first from m past = (past.course, past.before ++ past_journals past.chapters, past.runs)
