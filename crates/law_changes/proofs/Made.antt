-- What changes make of the states of a history.
use Rattle.std.proofs.Common.{◌≡◌, ℕ, ◌+◌, ◌-◌, List, [], ◌∷◌, ◌++◌, Option, Some, None}
use Rattle.std.proofs.Common.{MatchOption, drop, get_or, length, map, refl, sym, ap, subst, take, ◌∙◌, arith}
use Rattle.std.proofs.lemmas.List.{drop-map, get_or_push, length-map, length_push, map-append, take_at}
use Rattle.std.specs.List.{cons_option, filter_map}
use Rattle.base_edits.specs.EditSet.{edited}
use Rattle.base_files.specs.Workspace.{Workspace}
use Rattle.base_files.specs.declared.limits.Limits.{Limits}
use Rattle.base_files.specs.declared.refusal.Refusal.TheVariants.{Memory, Moved, NothingToUndo, NothingToRedo, JournalFull, Stale, Already, NoJob}
use Rattle.build_carry.specs.Finished.{Table}
use Rattle.history_machine.specs.Chapters.{Occurrence, RunsOver}
use Rattle.history_machine.specs.Machine.{Content, IsOneBefore, Machine, changed, closed, content, newest, opening}
use Rattle.history_machine.specs.State.{State}
use Rattle.history_machine.specs.Step.{Answers, Step}
use Rattle.history_machine.specs.declared.entry.Entry.{Entry}
use Rattle.history_machine.specs.declared.event.Event.{Event}
use Rattle.history_machine.specs.declared.event.Event.TheVariants.{Look, Log, Commit, Undo, Redo, Take, Deliver, GiveBack}
use Rattle.history_machine.specs.declared.event.Reply.{Reply}
use Rattle.history_machine.specs.declared.event.Reply.TheVariants.{Looked, Logged, Done, Taken, Refused, Back}
use Rattle.history_records.specs.declared.change.KeptChange.{KeptChange}
use Rattle.history_records.specs.declared.change.KeptChange.TheVariants as kept
use Rattle.law_changes.specs.Changes.{HasChanges, KeptStates, SameChangesSameStates, change_among, change_done, changes_among, state_kept, states_kept}

-- the last states of a list, as many as undo reaches at most
abbrev pub last_kept : (depth : ℕ) → List (ℕ × Workspace) → List (ℕ × Workspace)
last_kept depth xs = drop (length xs - depth) xs

-- a's states are those of b, with the cursor one state before b's
pub record IsOneBack (a b : KeptStates) : Type 0 where
  pub limits : a.limits ≡ b.limits
  pub earlier : b.earlier ≡ a.earlier ++ a.current ∷ []
  pub later : a.later ≡ b.later ++ b.current ∷ []
  pub next : a.next ≡ b.next

-- what a change makes of the states
abbrev pub Makes : KeptChange → KeptStates → KeptStates → Type 0
Makes (kept.Commit basis edits) a b = b ≡ record {
  limits = a.limits;
  earlier = last_kept a.limits.undo_depth (a.earlier ++ a.current ∷ []);
  current = (a.next, edited edits a.current.1);
  later = [];
  next = a.next + 1;
}
Makes (kept.Undo basis) a b = IsOneBack b a
Makes (kept.Redo basis) a b = IsOneBack a b

-- what changes make of the states, one after the other
abbrev pub MakeAll : List KeptChange → KeptStates → KeptStates → Type 0
MakeAll [] a b = b ≡ a
MakeAll (change ∷ changes) a b = (mid : KeptStates) × Makes change a mid × MakeAll changes mid b

-- ---- a change makes one thing

-- the same list with one element more
last_same : {X : Type 0} (xs ys : List X) (x y : X) → xs ++ x ∷ [] ≡ ys ++ y ∷ [] → (xs ≡ ys) × (x ≡ y)
last_same {X} xs ys x y e =
    let long : length ys ≡ length xs = omega (arith, ap length e, length_push xs x, length_push ys y) in (
      sym (take_at xs (x ∷ []) (length xs) refl) ∙ ap (λ (zs : List X). take (length xs) zs) e ∙ take_at ys (y ∷ []) (length xs) long,
      sym (get_or_push xs x x (length xs) refl) ∙ ap (λ (zs : List X). get_or zs (length xs) x) e ∙ get_or_push ys y x (length xs) long,
    )

one_back : (a b c : KeptStates) → IsOneBack b a → IsOneBack c a → b ≡ c
one_back a b c p q =
    let limits : b.limits ≡ c.limits = p.limits ∙ sym q.limits in
    let split = last_same b.earlier c.earlier b.current c.current (sym p.earlier ∙ q.earlier) in
    let later : b.later ≡ c.later = p.later ∙ sym q.later in
    let next : b.next ≡ c.next = p.next ∙ sym q.next in
    λ i. record { limits = limits i; earlier = split.0 i; current = split.1 i; later = later i; next = next i }

one_forth : (a b c : KeptStates) → IsOneBack a b → IsOneBack a c → b ≡ c
one_forth a b c p q =
    let limits : b.limits ≡ c.limits = sym p.limits ∙ q.limits in
    let earlier : b.earlier ≡ c.earlier = p.earlier ∙ sym q.earlier in
    let split = last_same b.later c.later b.current c.current (sym p.later ∙ q.later) in
    let next : b.next ≡ c.next = sym p.next ∙ q.next in
    λ i. record { limits = limits i; earlier = earlier i; current = split.1 i; later = split.0 i; next = next i }

one_made : (change : KeptChange) (a b c : KeptStates) → Makes change a b → Makes change a c → b ≡ c
one_made (kept.Commit basis edits) a b c p q = p ∙ sym q
one_made (kept.Undo basis) a b c p q = one_back a b c p q
one_made (kept.Redo basis) a b c p q = one_forth a b c p q

pub all_made : (changes : List KeptChange) (a b c : KeptStates) → MakeAll changes a b → MakeAll changes a c → b ≡ c
all_made [] a b c p q = p ∙ sym q
all_made (change ∷ changes) a b c p q =
    let same = one_made change a p.0 q.0 p.1 q.1 in
    all_made changes q.0 b c (subst (λ (x : KeptStates). MakeAll changes x b) same p.2) q.2

-- ---- a step makes what its change makes

kept_newest : (depth : ℕ) (xs : List State) (x : State) →
    map state_kept (newest depth (xs ++ x ∷ [])) ≡ last_kept depth (map state_kept xs ++ state_kept x ∷ [])
kept_newest depth xs x =
    let all = xs ++ x ∷ [] in
    sym (drop-map state_kept (length all - depth) all)
    ∙ ap (λ (n : ℕ). drop (n - depth) (map state_kept all)) (sym (length-map all state_kept))
    ∙ ap (λ (ys : List (ℕ × Workspace)). last_kept depth ys) (map-append state_kept xs (x ∷ []))

-- the states that the event leaves: those that its change makes, or the same ones
abbrev Leaves : Content → Event → Reply → Content → Type 0
Leaves old event reply new =
    MatchOption (change_done reply event) (states_kept new ≡ states_kept old) (λ change. Makes change (states_kept old) (states_kept new))

committed_states : (old new : Content) (w : Workspace) (finished : Table) → new ≡ changed old w finished →
    states_kept new ≡ record {
      limits = old.limits;
      earlier = last_kept old.limits.undo_depth (map state_kept old.earlier ++ state_kept old.current ∷ []);
      current = (old.next, w);
      later = [];
      next = old.next + 1;
    }
committed_states old new w finished e =
    ap states_kept e ∙ (λ i. record {
      limits = old.limits;
      earlier = kept_newest old.limits.undo_depth old.earlier old.current i;
      current = (old.next, w);
      later = [];
      next = old.next + 1;
    })

moved_back : (before after : Content) → IsOneBefore before after → IsOneBack (states_kept before) (states_kept after)
moved_back before after is = record {
  limits = is.limits;
  earlier = ap (λ (xs : List State). map state_kept xs) is.earlier ∙ map-append state_kept before.earlier (before.current ∷ []);
  later = ap (λ (xs : List State). map state_kept xs) is.later ∙ map-append state_kept after.later (after.current ∷ []);
  next = is.next;
}

answer_leaves : (old : Content) (event : Event) (reply : Reply) (new : Content) → Answers old event reply new → Leaves old event reply new
answer_leaves old Look (Looked view) new a = ap states_kept a.1
answer_leaves old (Log asked) (Logged number line) new a = ap states_kept a.1
answer_leaves old (Commit basis change) (Done number) new a =
    let files : change.files ≡ edited change.edits old.current.files = a.0.1.files ∙ ap (edited change.edits) a.0.0.1 in
    committed_states old new change.files a.2.0 a.2.2 ∙ (λ i. record {
      limits = old.limits;
      earlier = last_kept old.limits.undo_depth (map state_kept old.earlier ++ state_kept old.current ∷ []);
      current = (old.next, files i);
      later = [];
      next = old.next + 1;
    })
answer_leaves old (Commit basis change) (Refused (Moved current)) new a = ap states_kept a.2
answer_leaves old (Undo basis) (Done number) new a = moved_back new old a.3
answer_leaves old (Undo basis) (Refused (Moved current)) new a = ap states_kept a.2
answer_leaves old (Undo basis) (Refused NothingToUndo) new a = ap states_kept a.2
answer_leaves old (Redo basis) (Done number) new a = moved_back old new a.3
answer_leaves old (Redo basis) (Refused (Moved current)) new a = ap states_kept a.2
answer_leaves old (Redo basis) (Refused NothingToRedo) new a = ap states_kept a.2
answer_leaves old Take (Taken job) new a = ap states_kept a.1
answer_leaves old Take (Refused NoJob) new a = ap states_kept a.1
answer_leaves old (Deliver job built) (Back NoJob back unit) new a = ap states_kept a.2
answer_leaves old (Deliver job built) (Refused (Stale current)) new a = ap states_kept a.2.2
answer_leaves old (Deliver job built) (Refused Already) new a = ap states_kept a.2.2
answer_leaves old (Deliver job built) (Done number) new a = ap states_kept a.3.4
answer_leaves old (GiveBack job) (Back NoJob back unit) new a = ap states_kept a.2
answer_leaves old (GiveBack job) (Done number) new a = ap states_kept a.1.2
answer_leaves old event reply new a = absurd a

machine_leaves : (old new : Machine) → new ≡ old → states_kept (content new) ≡ states_kept (content old)
machine_leaves old new e = ap (λ (m : Machine). states_kept (content m)) e

step_leaves : (old : Machine) (event : Event) (reply : Reply) (new : Machine) → Step old event reply new → Leaves (content old) event reply (content new)
step_leaves old event (Refused Memory) new s = machine_leaves old new s.1
step_leaves old event (Refused JournalFull) new s = machine_leaves old new s.2
step_leaves old event (Back Memory job unit) new s = machine_leaves old new s.2
step_leaves old event (Back JournalFull job unit) new s = machine_leaves old new s.2
step_leaves old event reply new s = answer_leaves (content old) event reply (content new) s.1

-- a step keeps the limits
limits_made : (change : KeptChange) (a b : KeptStates) → Makes change a b → b.limits ≡ a.limits
limits_made (kept.Commit basis edits) a b made = ap (λ (s : KeptStates). s.limits) made
limits_made (kept.Undo basis) a b made = made.limits
limits_made (kept.Redo basis) a b made = sym made.limits

limits_left : (o : Option KeptChange) (a b : KeptStates) → MatchOption o (b ≡ a) (λ change. Makes change a b) → b.limits ≡ a.limits
limits_left None a b same = ap (λ (s : KeptStates). s.limits) same
limits_left (Some change) a b made = limits_made change a b made

pub step_limits : (old : Machine) (event : Event) (reply : Reply) (new : Machine) → Step old event reply new → new.limits ≡ old.limits
step_limits old event reply new s =
    limits_left (change_done reply event) (states_kept (content old)) (states_kept (content new)) (step_leaves old event reply new s)

-- ---- runs

-- the next event, and the changes behind it
made_on : (change : Option KeptChange) (changes : List KeptChange) (a mid b : KeptStates) → MatchOption change (mid ≡ a) (λ k. Makes k a mid) →
    MakeAll changes mid b → MakeAll (cons_option change changes) a b
made_on None changes a mid b same all = subst (λ (x : KeptStates). MakeAll changes x b) same all
made_on (Some change) changes a mid b makes all = (mid, makes, all)

pub run_makes : (old : Machine) (course : List Occurrence) (journals : List (List Entry)) (new : Machine) → RunsOver old course journals new →
    MakeAll (changes_among course) (states_kept (content old)) (states_kept (content new))
run_makes old [] journals new h = machine_leaves old new h.1
run_makes old (None ∷ course) journals new h = run_makes (closed old) course h.0 new h.2
run_makes old (Some e ∷ course) journals new h =
    made_on (change_done e.1 e.0) (changes_among course) (states_kept (content old)) (states_kept (content h.0)) (states_kept (content new))
    (step_leaves old e.0 e.1 h.0 h.1) (run_makes h.0 course journals new h.2)

pub same_changes_same_states : SameChangesSameStates
same_changes_same_states limits changes m n one other =
    let start = states_kept (content (opening limits)) in
    all_made changes start (states_kept (content m)) (states_kept (content n))
    (subst (λ (cs : List KeptChange). MakeAll cs start (states_kept (content m))) one.3 (run_makes (opening limits) one.0 one.1 m one.2))
    (subst (λ (cs : List KeptChange). MakeAll cs start (states_kept (content n))) other.3 (run_makes (opening limits) other.0 other.1 n other.2))
