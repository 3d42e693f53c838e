-- Finished units are current: a change carries over the units of packages whose closure keeps its texts, and a delivery was built from the
-- texts of its closure.
use Rattle.std.proofs.Common.{◌≡◌, ℕ, zero, suc, List, [], ◌∷◌, ◌++◌, Some, slice_get, refl, sym, ap, subst, ◌∙◌, ⊎_elim}
use Rattle.std.proofs.Math.ListN.{set}
use Rattle.std.specs.List.{All, Contains}
use Rattle.std.proofs.lemmas.Bool.{cases_eq}
use Rattle.std.proofs.lemmas.List.Elements.{All-drop, All-nil, All-pop, All-push}
use Rattle.std.proofs.lemmas.Option.{none-some, same_Some}
use Rattle.base_files.specs.Packages.{package_paths}
use Rattle.base_files.specs.Workspace.{Workspace}
use Rattle.base_files.specs.declared.refusal.Refusal.TheVariants.{Memory, Moved, NothingToUndo, NothingToRedo, JournalFull, Stale, Already, NoJob}
use Rattle.workspace_graph.proofs.ByPath.{at_contains}
use Rattle.workspace_graph.proofs.Filled.{set_elsewhere}
use Rattle.workspace_check.proofs.Local.{same_back}
use Rattle.build_unit.specs.declared.built.Built.{Built}
use Rattle.build_unit.specs.declared.job.JobRecord.{JobRecord}
use Rattle.build_unit.specs.declared.unit.Unit.{Unit as PackageUnit}
use Rattle.build_unit.specs.Units.{IsUnitOf}
use Rattle.build_unit.proofs.Locality.{local_unit}
use Rattle.build_carry.specs.Finished.{Table, GainsUnit}
use Rattle.history_machine.specs.declared.event.Event.{Event}
use Rattle.history_machine.specs.declared.event.Event.TheVariants.{Look, Log, Commit, Undo, Redo, Take, Deliver, GiveBack}
use Rattle.history_machine.specs.declared.event.Reply.{Reply}
use Rattle.history_machine.specs.declared.event.Reply.TheVariants.{Looked, Logged, Done, Taken, Refused, Back}
use Rattle.history_machine.specs.State.{State}
use Rattle.build_carry.specs.Carried.{IsCarried}
use Rattle.history_machine.specs.Machine.{Content, Machine, IsOneBefore, content, opening, with_journal}
use Rattle.history_machine.specs.Run.{Run}
use Rattle.history_machine.specs.Deliveries.{IsFresh, IsRightlyBuilt}
use Rattle.history_machine.specs.Step.{Answers}
use Rattle.history_machine.specs.Current.{AreUnits, HasCurrentUnits, UnitsAreCurrent, StepsKeepUnits, FinishedAreCurrent}
use Rattle.build_carry.proofs.ClosureTexts.{inputs_same, package_there}

-- the element at a position that was set
set_here : {X : Type 0} (xs : List X) (n : ℕ) (y z : X) → slice_get (set xs n y) n ≡ Some z → y ≡ z
set_here [] n y z h = absurd (none-some z h)
set_here (x ∷ xs) zero y z h = same_Some y z h
set_here (x ∷ xs) (suc n) y z h = set_here xs n y z h

-- the finished units of a content are current
abbrev Units : Content → Type 0
Units c = UnitsAreCurrent (with_journal c [])

units_of : (m : Machine) → UnitsAreCurrent m → Units (content m)
units_of m u = record { earlier = u.earlier; current = u.current; later = u.later }

units_with : (m : Machine) → Units (content m) → UnitsAreCurrent m
units_with m u = record { earlier = u.earlier; current = u.current; later = u.later }

-- the units stay current where earlier, current and later states stay
units_stay : (old k new : Content) → new ≡ k → k.earlier ≡ old.earlier → k.current ≡ old.current → k.later ≡ old.later → Units old → Units new
units_stay old k new e earlier current later u = subst Units (sym e) (record {
  earlier = subst (All HasCurrentUnits) (sym earlier) u.earlier;
  current = subst HasCurrentUnits (sym current) u.current;
  later = subst (All HasCurrentUnits) (sym later) u.later;
})

-- the units stay current where undo or redo moves the cursor by one state
units_before : (n m : Content) → IsOneBefore n m → Units m → Units n
units_before n m moved u =
    let back = All-pop HasCurrentUnits m.earlier n.earlier (Some n.current) moved.earlier u.earlier in
    record {
      earlier = back.0;
      current = back.1;
      later = subst (All HasCurrentUnits) (sym moved.later) (All-push HasCurrentUnits m.later m.current u.later u.current);
    }

units_after : (n m : Content) → IsOneBefore n m → Units n → Units m
units_after n m moved u =
    let back = All-pop HasCurrentUnits n.later m.later (Some m.current) moved.later u.later in
    record {
      earlier = subst (All HasCurrentUnits) (sym moved.earlier) (All-push HasCurrentUnits n.earlier n.current u.earlier u.current);
      current = back.1;
      later = back.0;
    }

-- the units that a change carries over are current
units_carried : (v : Workspace) (old : Table) (w : Workspace) (new : Table) → IsCarried v old w new → AreUnits v old → AreUnits w new
units_carried v old w new carried u p unit finished =
    let before = (carried.each p unit).0 finished in
    local_unit v w p unit (at_contains v before.0.0 p before.0.1) before.1 (u p unit before.0)

-- a delivered unit is current
unit_built : (state : State) (job : JobRecord) (built : Built) → IsFresh state job built → IsRightlyBuilt built → IsUnitOf state.files job.package built.unit
unit_built state job built fresh right =
    let same = inputs_same state.files job.package built.inputs fresh.built_inputs in
    let there = package_there state.files built.inputs job.package fresh.built_inputs.is_package same in
    let here = subst (Contains (package_paths built.inputs)) (sym fresh.same_package) there in
    local_unit built.inputs state.files job.package built.unit there (same_back state.files built.inputs job.package same)
    (subst (λ p. IsUnitOf built.inputs p built.unit) fresh.same_package (right here))

units_gained : (w : Workspace) (old : Table) (p : List ℕ) (unit : PackageUnit) (new : Table) → GainsUnit w old p unit new → IsUnitOf w p unit → AreUnits w old →
    AreUnits w new
units_gained w old p unit new gains is u q other finished =
    let there = subst (λ (t : Table). slice_get t finished.0 ≡ Some (Some other)) gains.2 finished.2 in
    ⊎_elim
    (λ (here : finished.0 ≡ gains.0).
    let same_package : p ≡ q = same_Some p q (sym gains.1 ∙ ap (slice_get (package_paths w)) (sym here) ∙ finished.1) in
    let same_unit : unit ≡ other = same_Some unit other
    (set_here old gains.0 (Some unit) (Some other) (subst (λ (k : ℕ). slice_get (set old gains.0 (Some unit)) k ≡ Some (Some other)) here there)) in
    subst (λ x. IsUnitOf w x other) same_package (subst (IsUnitOf w p) same_unit is))
    (λ (elsewhere : finished.0 ≡ gains.0 → ⊥). u q other (finished.0, finished.1, sym (set_elsewhere old gains.0 finished.0 (Some unit) elsewhere) ∙ there))
    (cases_eq finished.0 gains.0)

answer_units : (old : Content) (event : Event) (reply : Reply) (new : Content) → Answers old event reply new → Units old → Units new
answer_units old Look (Looked view) new a u = units_stay old _ new a.1 refl refl refl u
answer_units old (Log asked) (Logged number line) new a u = units_stay old _ new a.1 refl refl refl u
answer_units old (Commit basis change) (Done number) new a u =
    subst Units (sym a.2.2) (record {
      earlier = All-drop HasCurrentUnits _ (old.earlier ++ old.current ∷ []) (All-push HasCurrentUnits old.earlier old.current u.earlier u.current);
      current = units_carried old.current.files old.current.finished change.files a.2.0 a.2.1 u.current;
      later = All-nil HasCurrentUnits;
    })
answer_units old (Commit basis change) (Refused (Moved current)) new a u = units_stay old _ new a.2 refl refl refl u
answer_units old (Undo basis) (Done number) new a u = units_before new old a.3 u
answer_units old (Undo basis) (Refused (Moved current)) new a u = units_stay old _ new a.2 refl refl refl u
answer_units old (Undo basis) (Refused NothingToUndo) new a u = units_stay old _ new a.2 refl refl refl u
answer_units old (Redo basis) (Done number) new a u = units_after old new a.3 u
answer_units old (Redo basis) (Refused (Moved current)) new a u = units_stay old _ new a.2 refl refl refl u
answer_units old (Redo basis) (Refused NothingToRedo) new a u = units_stay old _ new a.2 refl refl refl u
answer_units old Take (Taken job) new a u = units_stay old _ new a.1 refl refl refl u
answer_units old Take (Refused NoJob) new a u = units_stay old _ new a.1 refl refl refl u
answer_units old (Deliver job built) (Back NoJob back unit) new a u = units_stay old _ new a.2 refl refl refl u
answer_units old (Deliver job built) (Refused (Stale current)) new a u = units_stay old _ new a.2.2 refl refl refl u
answer_units old (Deliver job built) (Refused Already) new a u = units_stay old _ new a.2.2 refl refl refl u
answer_units old (Deliver job built) (Done number) new a u =
    subst Units (sym a.3.4) (record {
      earlier = u.earlier;
      current = units_gained old.current.files old.current.finished job.package built.unit a.3.1 a.3.3 (unit_built old.current job built a.0 a.4) u.current;
      later = u.later;
    })
answer_units old (GiveBack job) (Back NoJob back unit) new a u = units_stay old _ new a.2 refl refl refl u
answer_units old (GiveBack job) (Done number) new a u = units_stay old _ new a.1.2 refl refl refl u
answer_units old event reply new a u = absurd a

pub steps_keep_units : StepsKeepUnits
steps_keep_units old new event (Refused Memory) s u = subst UnitsAreCurrent (sym s.1) u
steps_keep_units old new event (Refused JournalFull) s u = subst UnitsAreCurrent (sym s.2) u
steps_keep_units old new event (Back Memory job unit) s u = subst UnitsAreCurrent (sym s.2) u
steps_keep_units old new event (Back JournalFull job unit) s u = subst UnitsAreCurrent (sym s.2) u
steps_keep_units old new event reply s u = units_with new (answer_units (content old) event reply (content new) s.1 (units_of old u))

run_units : (old : Machine) (events : List (Event × Reply)) (new : Machine) → Run old events new → UnitsAreCurrent old → UnitsAreCurrent new
run_units old [] new run u = subst UnitsAreCurrent (sym run) u
run_units old (e ∷ events) new run u = run_units run.0 events new run.2 (steps_keep_units old run.0 e.0 e.1 run.1 u)

pub finished_are_current : FinishedAreCurrent
finished_are_current limits events m run = run_units (opening limits) events m run (record {
  earlier = All-nil HasCurrentUnits;
  current = λ p unit finished. absurd (none-some (Some unit) finished.2);
  later = All-nil HasCurrentUnits;
})
