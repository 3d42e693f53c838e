-- Runs over borders: with one event more, with a journal closed at their end, and those that closed none but empty ones.
use Rattle.std.proofs.Common.{◌≡◌, ℕ, zero, suc, ◌+◌, ◌≤◌, List, [], ◌∷◌, ◌++◌, Some, None, length, map, refl, sym, ap, subst, ◌∙◌, arith}
use mathlib.Core.Logic.{∥∥₁_map}
use Rattle.base_files.specs.declared.limits.Limits.{Limits}
use Rattle.base_files.specs.declared.refusal.Refusal.TheVariants.{Memory, Moved, NothingToUndo, NothingToRedo, JournalFull, Stale, Already, NoJob}
use Rattle.history_machine.specs.declared.entry.Entry.{Entry}
use Rattle.history_machine.specs.declared.event.Event.{Event}
use Rattle.history_machine.specs.declared.event.Event.TheVariants.{Look, Log, Commit, Undo, Redo, Take, Deliver, GiveBack}
use Rattle.history_machine.specs.declared.event.Reply.{Reply}
use Rattle.history_machine.specs.declared.event.Reply.TheVariants.{Looked, Logged, Done, Taken, Refused, Back}
use Rattle.history_machine.specs.Chapters.{HasHistory, Occurrence, RunsOver}
use Rattle.history_machine.specs.Machine.{Content, Machine, closed, content, opening}
use Rattle.history_machine.specs.Run.{IsReplay, Run}
use Rattle.history_machine.specs.Step.{Answers, Step}

-- ---- a run goes on

-- with one event more
pub runs_on : (old : Machine) (course : List Occurrence) (journals : List (List Entry)) (mid : Machine) (event : Event) (reply : Reply) (new : Machine) →
    RunsOver old course journals mid → Step mid event reply new → RunsOver old (course ++ Some (event, reply) ∷ []) journals new
runs_on old [] journals mid event reply new h step = (new, subst (λ (m : Machine). Step m event reply new) h.1 step, (h.0, refl))
runs_on old (None ∷ course) journals mid event reply new h step = (h.0, h.1, runs_on (closed old) course h.0 mid event reply new h.2 step)
runs_on old (Some e ∷ course) journals mid event reply new h step = (h.0, h.1, runs_on h.0 course journals mid event reply new h.2 step)

-- with the journal closed
pub closes_on : (old : Machine) (course : List Occurrence) (journals : List (List Entry)) (mid : Machine) → RunsOver old course journals mid →
    RunsOver old (course ++ None ∷ []) (journals ++ mid.journal ∷ []) (closed mid)
closes_on old [] journals mid h =
    ([], ap (λ (js : List (List Entry)). js ++ mid.journal ∷ []) h.0 ∙ ap (λ (m : Machine). m.journal ∷ []) h.1, (refl, ap closed h.1))
closes_on old (None ∷ course) journals mid h =
    (h.0 ++ mid.journal ∷ [], ap (λ (js : List (List Entry)). js ++ mid.journal ∷ []) h.1, closes_on (closed old) course h.0 mid h.2)
closes_on old (Some e ∷ course) journals mid h = (h.0, h.1, closes_on h.0 course journals mid h.2)

pub reached_on : (old new : Machine) (event : Event) (reply : Reply) → new.limits ≡ old.limits → Step old event reply new → HasHistory old → HasHistory new
reached_on old new event reply limits step is = (
  is.0 ++ Some (event, reply) ∷ [],
  is.1,
  subst (λ (l : Limits). RunsOver (opening l) (is.0 ++ Some (event, reply) ∷ []) is.1 new) (sym limits)
      (runs_on (opening old.limits) is.0 is.1 old event reply new is.2 step),
)

pub reached_closed : (m : Machine) → HasHistory m → HasHistory (closed m)
reached_closed m is = (is.0 ++ None ∷ [], is.1 ++ m.journal ∷ [], closes_on (opening m.limits) is.0 is.1 m is.2)

pub reached_opening : (limits : Limits) → HasHistory (opening limits)
reached_opening limits = ([], [], (refl, refl))

-- ---- how many entries the closed journals have

begun_by : (m n k : Content) → n ≡ k → k.begun ≡ m.begun → n.begun ≡ m.begun
begun_by m n k e same = ap (λ (x : Content). x.begun) e ∙ same

answer_begun : (old : Content) (event : Event) (reply : Reply) (new : Content) → Answers old event reply new → new.begun ≡ old.begun
answer_begun old Look (Looked view) new a = begun_by old new _ a.1 refl
answer_begun old (Log asked) (Logged number line) new a = begun_by old new _ a.1 refl
answer_begun old (Commit basis change) (Done number) new a = begun_by old new _ a.2.2 refl
answer_begun old (Commit basis change) (Refused (Moved current)) new a = begun_by old new _ a.2 refl
answer_begun old (Undo basis) (Done number) new a = a.3.begun
answer_begun old (Undo basis) (Refused (Moved current)) new a = begun_by old new _ a.2 refl
answer_begun old (Undo basis) (Refused NothingToUndo) new a = begun_by old new _ a.2 refl
answer_begun old (Redo basis) (Done number) new a = sym a.3.begun
answer_begun old (Redo basis) (Refused (Moved current)) new a = begun_by old new _ a.2 refl
answer_begun old (Redo basis) (Refused NothingToRedo) new a = begun_by old new _ a.2 refl
answer_begun old Take (Taken job) new a = begun_by old new _ a.1 refl
answer_begun old Take (Refused NoJob) new a = begun_by old new _ a.1 refl
answer_begun old (Deliver job built) (Back NoJob back unit) new a = begun_by old new _ a.2 refl
answer_begun old (Deliver job built) (Refused (Stale current)) new a = begun_by old new _ a.2.2 refl
answer_begun old (Deliver job built) (Refused Already) new a = begun_by old new _ a.2.2 refl
answer_begun old (Deliver job built) (Done number) new a = begun_by old new _ a.3.4 refl
answer_begun old (GiveBack job) (Back NoJob back unit) new a = begun_by old new _ a.2 refl
answer_begun old (GiveBack job) (Done number) new a = begun_by old new _ a.1.2 refl
answer_begun old event reply new a = absurd a

machine_begun : (old new : Machine) → new ≡ old → new.begun ≡ old.begun
machine_begun old new e = ap (λ (m : Machine). m.begun) e

-- a step closes no journal
pub step_begun : (old : Machine) (event : Event) (reply : Reply) (new : Machine) → Step old event reply new → new.begun ≡ old.begun
step_begun old event (Refused Memory) new s = machine_begun old new s.1
step_begun old event (Refused JournalFull) new s = machine_begun old new s.2
step_begun old event (Back Memory job unit) new s = machine_begun old new s.2
step_begun old event (Back JournalFull job unit) new s = machine_begun old new s.2
step_begun old event reply new s = answer_begun (content old) event reply (content new) s.1

begun_rises : (old : Machine) (course : List Occurrence) (journals : List (List Entry)) (new : Machine) → RunsOver old course journals new →
    old.begun ≤ new.begun
begun_rises old [] journals new h = omega (arith, machine_begun old new h.1)
begun_rises old (None ∷ course) journals new h =
    let rest = begun_rises (closed old) course h.0 new h.2 in omega (arith, rest)
begun_rises old (Some e ∷ course) journals new h =
    let first = step_begun old e.0 e.1 h.0 h.1 in
    let rest = begun_rises h.0 course journals new h.2 in
    omega (arith, first, rest)

-- ---- runs that closed no journal but empty ones

none_of : (journal : List Entry) → length journal ≡ 0 → journal ≡ []
none_of [] none = refl
none_of (entry ∷ journal) none = absurd (omega (arith, none))

closed_empty : (m : Machine) → length m.journal ≡ 0 → closed m ≡ m
closed_empty m none =
    let begun : m.begun + length m.journal ≡ m.begun = omega (arith, none) in
    λ i. record m { begun = begun i; journal = sym (none_of m.journal none) i }

-- Where all closed journals were empty, a run over borders is one without borders.
run_without : (old : Machine) (course : List Occurrence) (journals : List (List Entry)) (new : Machine) → new.begun ≡ 0 → RunsOver old course journals new →
    (events : List (Event × Reply)) × Run old events new
run_without old [] journals new none h = ([], h.1)
run_without old (None ∷ course) journals new none h =
    let rises = begun_rises (closed old) course h.0 new h.2 in
    let empty : length old.journal ≡ 0 = omega (arith, rises, none) in
    let rest = run_without (closed old) course h.0 new none h.2 in
    (rest.0, subst (λ (m : Machine). Run m rest.0 new) (closed_empty old empty) rest.1)
run_without old (Some e ∷ course) journals new none h =
    let rest = run_without h.0 course journals new none h.2 in
    (e ∷ rest.0, (h.0, h.1, rest.1))

pub whole_run : (m : Machine) → m.begun ≡ 0 → HasHistory m → (events : List (Event × Reply)) × Run (opening m.limits) events m
whole_run m none is = run_without (opening m.limits) is.0 is.1 m none is.2

pub replay_whole : (m : Machine) → m.begun ≡ 0 → ∥ HasHistory m ∥₁ → ∥ IsReplay m.limits m.journal (content m) ∥₁
replay_whole m none reached = ∥∥₁_map reached (λ (is : HasHistory m). whole_run m none is)

-- A run without borders is one over borders that closes no journal.
pub runs_over : (old : Machine) (events : List (Event × Reply)) (new : Machine) → Run old events new → RunsOver old (map Some events) [] new
runs_over old [] new run = (refl, run)
runs_over old (e ∷ events) new run = (run.0, run.1, runs_over run.0 events new run.2)
