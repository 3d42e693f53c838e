-- A run adds entries, and what they tell, one after the other, leads from its first content to its last. So a journal has one replay.
use Rattle.std.proofs.Common.{◌≡◌, ℕ, List, [], ◌∷◌, ◌++◌, Some, None, slice_get, map, refl, sym, ap, subst, ◌∙◌, append_assoc, arith}
use Rattle.std.specs.List.{All}
use Rattle.std.proofs.lemmas.List.{append-nil, append_cancel_left}
use Rattle.std.proofs.lemmas.List.Elements.{All-get_or}
use Rattle.std.proofs.lemmas.Option.{get_or_from_slice_get, same_Some, slice_get-map, slice_get_within}
use Rattle.std.specs.Option.{option_map}
use Rattle.base_files.specs.Workspace.{Workspace}
use Rattle.base_files.specs.declared.limits.Limits.{Limits}
use Rattle.base_files.specs.declared.refusal.Refusal.TheVariants.{Memory, JournalFull}
use Rattle.build_unit.specs.Jobs.{JobsOut}
use Rattle.build_unit.specs.Units.{IsUnitOf, unit_value}
use Rattle.build_unit.proofs.OneUnit.{one_unit}
use Rattle.history_machine.specs.Current.{HasCurrentUnits}
use Rattle.history_machine.specs.Machine.{Content, Machine, content, opening, with_journal}
use Rattle.history_machine.specs.Run.{IsReplay, Run}
use Rattle.history_machine.specs.State.{State}
use Rattle.history_machine.specs.Step.{Step}
use Rattle.history_machine.specs.declared.entry.Entry.{Entry}
use Rattle.history_machine.specs.declared.event.Event.{Event}
use Rattle.history_machine.specs.declared.event.Reply.{Reply}
use Rattle.history_machine.specs.declared.event.Reply.TheVariants.{Refused, Back}
use Rattle.history_machine.proofs.CurrentLaws.{finished_are_current}
use Rattle.law_history.specs.Replays.{HaveSameUnits, HaveSameUnitsEach, IsSameContent, Outline, Replays, ReplaysAreUnique, StateOutline, outline, state_outline}
use Rattle.law_history.proofs.Effects.{entries_tell_steps}
use Rattle.law_history.proofs.Outlines.{like_of}
use Rattle.law_history.proofs.Unique.{Rises, effects_like, effects_rise}

-- The entries, in order, lead from c to d.
abbrev pub Replayed : Content → List Entry → Content → Type 0
Replayed c [] d = d ≡ c
Replayed c (entry ∷ entries) d = (mid : Content) × Replays c entry mid × Replayed mid entries d

-- The entries that a step or a run adds lead from its first content to its last.
pub record Adds (old new : Machine) : Type 0 where
  pub entries : List Entry
  pub journal : new.journal ≡ old.journal ++ entries
  pub replayed : Replayed (content old) entries (content new)

adds_none : (old new : Machine) → new ≡ old → Adds old new
adds_none old new is = record {
  entries = [];
  journal = ap (λ (m : Machine). m.journal) is ∙ sym (append-nil old.journal);
  replayed = ap content is;
}

step_adds : (old : Machine) (event : Event) (reply : Reply) (new : Machine) → Step old event reply new → Adds old new
step_adds old event (Refused Memory) new s = adds_none old new s.1
step_adds old event (Refused JournalFull) new s = adds_none old new s.2
step_adds old event (Back Memory job unit) new s = adds_none old new s.2
step_adds old event (Back JournalFull job unit) new s = adds_none old new s.2
step_adds old event reply new s =
    let told = entries_tell_steps (content old) (content new) event reply old.journal new.journal s.1 s.2 in
    record { entries = told.0 ∷ []; journal = told.1; replayed = (content new, told.2, refl) }

pub replayed_on : (c d e : Content) (xs ys : List Entry) → Replayed c xs d → Replayed d ys e → Replayed c (xs ++ ys) e
replayed_on c d e [] ys one other = subst (λ (x : Content). Replayed x ys e) one other
replayed_on c d e (x ∷ xs) ys one other = (one.0, one.1, replayed_on one.0 d e xs ys one.2 other)

pub run_adds : (old : Machine) (events : List (Event × Reply)) (new : Machine) → Run old events new → Adds old new
run_adds old [] new run = adds_none old new run
run_adds old (e ∷ events) new run =
    let first = step_adds old e.0 e.1 run.0 run.1 in
    let rest = run_adds run.0 events new run.2 in
    record {
      entries = first.entries ++ rest.entries;
      journal = rest.journal ∙ ap (λ l. l ++ rest.entries) first.journal ∙ append_assoc old.journal first.entries rest.entries;
      replayed = replayed_on (content old) (content run.0) (content new) first.entries rest.entries first.replayed rest.replayed;
    }

pub replayed_like : (entries : List Entry) (c d c' d' : Content) → outline c ≡ outline d → Rises d.out → Replayed c entries c' → Replayed d entries d' →
    outline c' ≡ outline d'
replayed_like [] c d c' d' e rise one other = ap outline one ∙ e ∙ sym (ap outline other)
replayed_like (entry ∷ entries) c d c' d' e rise one other =
    replayed_like entries one.0 other.0 c' d'
    (effects_like entry.line.kind entry.line.out c d one.0 other.0 entry e rise one.1 other.1)
    (effects_rise entry.line.kind entry.line.out d other.0 entry other.1 rise) one.2 other.2

pub units_same : (a b : State) → a.files ≡ b.files → HasCurrentUnits a → HasCurrentUnits b → HaveSameUnits a b
units_same a b files one other p u v here there =
    let first : IsUnitOf b.files p u = subst (λ (w : Workspace). IsUnitOf w p u) files (one p u here) in
    one_unit b.files p (unit_value p u) (unit_value p v) first.value (other p v there).value

state_at : (xs : List State) (i : ℕ) (a : State) → slice_get xs i ≡ Some a → All HasCurrentUnits xs → HasCurrentUnits a
state_at xs i a at all =
    subst HasCurrentUnits (get_or_from_slice_get xs i a a at) (All-get_or HasCurrentUnits xs i a (slice_get_within xs i a at) all)

outline_at : (xs : List State) (i : ℕ) (a : State) → slice_get xs i ≡ Some a → slice_get (map state_outline xs) i ≡ Some (state_outline a)
outline_at xs i a at = slice_get-map state_outline xs i ∙ ap (option_map state_outline) at

pub units_each : (xs ys : List State) → map state_outline xs ≡ map state_outline ys → All HasCurrentUnits xs → All HasCurrentUnits ys → HaveSameUnitsEach xs ys
units_each xs ys e one other i a b here there =
    let same : state_outline a ≡ state_outline b = same_Some (state_outline a) (state_outline b)
    (sym (outline_at xs i a here) ∙ ap (λ l. slice_get l i) e ∙ outline_at ys i b there) in
    units_same a b (ap (λ (s : StateOutline). s.files) same) (state_at xs i a here one) (state_at ys i b there other)

pub replays_are_unique : ReplaysAreUnique
replays_are_unique limits journal c d one other =
    let first = run_adds (opening limits) one.0 (with_journal c journal) one.1 in
    let second = run_adds (opening limits) other.0 (with_journal d journal) other.1 in
    let entries : first.entries ≡ second.entries = sym first.journal ∙ second.journal in
    let start : Content = content (opening limits) in
    let rise : Rises start.out = omega arith in
    let like : outline c ≡ outline d = replayed_like second.entries start start c d refl rise
    (subst (λ es. Replayed start es c) entries first.replayed) second.replayed in
    let l = like_of c d like in
    let units = finished_are_current limits one.0 (with_journal c journal) one.1 in
    let others = finished_are_current limits other.0 (with_journal d journal) other.1 in
    record {
      outlines = like;
      earlier = units_each c.earlier d.earlier l.earlier units.earlier others.earlier;
      current = units_same c.current d.current (ap (λ (s : StateOutline). s.files) l.current) units.current others.current;
      later = units_each c.later d.later l.later units.later others.later;
    }
