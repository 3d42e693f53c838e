-- Runs over borders: they leave chapters, and lead as runs within one chapter do.
use Rattle.std.proofs.Common.{◌≡◌, ◌+◌, ◌≤◌, List, [], ◌∷◌, ◌++◌, Some, None, refl, sym, ap, subst, ◌∙◌, arith}
use Rattle.std.specs.List.{AllByRecursion}
use Rattle.history_machine.specs.Chapters.{LeadsOver, Occurrence, RunsOver}
use Rattle.history_machine.specs.Current.{UnitsAreCurrent}
use Rattle.history_machine.specs.Machine.{Content, Machine, closed, content, opening, with_journal}
use Rattle.history_machine.specs.Run.{Run}
use Rattle.history_machine.specs.declared.entry.Entry.{Entry}
use Rattle.history_machine.specs.declared.event.Event.{Event}
use Rattle.history_machine.specs.declared.event.Reply.{Reply}
use Rattle.history_machine.proofs.CurrentLaws.{steps_keep_units}
use Rattle.history_machine.proofs.Legal.{run_on}
use Rattle.history_machine.proofs.NumberLaws.{run_next}
use Rattle.history_machine.proofs.RunLaws.{SameReach, newest-push, quiet_run}
use Rattle.law_history.proofs.Reached.{redo_reaches, undo_reaches}
use Rattle.law_chapters.specs.Borders.{FinishedStayCurrent, IsQuiet, NumbersRiseOverBorders, RedoRestoresOverBorders, RunsLeaveChapters}
use Rattle.law_chapters.specs.Borders.{UndoRestoresOverBorders}
use Rattle.law_chapters.proofs.Replaying.{opening_units}

-- a chapter has begun, and the run goes on from there
leaves : (start : Content) (begun : List (Event × Reply)) (old : Machine) (course : List Occurrence) (journals : List (List Entry)) (new : Machine) →
    Run (with_journal start []) begun old → RunsOver old course journals new → LeadsOver start journals new.journal (content new)
leaves start begun old [] journals new run h =
    let whole : Run (with_journal start []) begun new = subst (λ (m : Machine). Run (with_journal start []) begun m) (sym h.1) run in
    subst (λ (js : List (List Entry)). LeadsOver start js new.journal (content new)) (sym h.0) (start, refl, (begun, whole))
leaves start begun old (None ∷ course) journals new run h =
    let rest = leaves (content (closed old)) [] (closed old) course h.0 new refl h.2 in
    subst (λ (js : List (List Entry)). LeadsOver start js new.journal (content new)) (sym h.1)
    (rest.0, (content old, (begun, run), rest.1), rest.2)
leaves start begun old (Some e ∷ course) journals new run h =
    leaves start (begun ++ e ∷ []) h.0 course journals new (run_on (with_journal start []) old h.0 begun e.0 e.1 run h.1) h.2

pub runs_leave_chapters : RunsLeaveChapters
runs_leave_chapters limits course journals m h = leaves (content (opening limits)) [] (opening limits) course journals m refl h

-- ---- undo and redo

quiet_over : (old : Machine) (course : List Occurrence) (journals : List (List Entry)) (new : Machine) → RunsOver old course journals new →
    AllByRecursion IsQuiet course → SameReach (content old) (content new)
quiet_over old [] journals new h quiet = record { earlier = ap (λ (m : Machine). m.earlier) h.1; later = ap (λ (m : Machine). m.later) h.1 }
quiet_over old (None ∷ course) journals new h quiet =
    let rest = quiet_over (closed old) course h.0 new h.2 quiet.1 in record { earlier = rest.earlier; later = rest.later }
quiet_over old (Some e ∷ course) journals new h quiet =
    let first = quiet_run old (e ∷ []) h.0 (h.0, h.1, refl) (quiet.0, tt) in
    let rest = quiet_over h.0 course journals new h.2 quiet.1 in
    record { earlier = rest.earlier ∙ first.earlier; later = rest.later ∙ first.later }

pub undo_restores_over_borders : UndoRestoresOverBorders
undo_restores_over_borders start changed settled end basis number change between journals reply committed run quiet undone =
    let same = quiet_over changed between journals settled run quiet in
    let kept = newest-push start.limits.undo_depth start.earlier start.current start.limits.undo_depth_positive in
    undo_reaches settled end kept.0 start.current reply (same.earlier ∙ ap (λ (k : Content). k.earlier) committed.1.2.2 ∙ kept.1) undone

pub redo_restores_over_borders : RedoRestoresOverBorders
redo_restores_over_borders start undone settled end basis number between journals reply left run quiet redone =
    let same = quiet_over undone between journals settled run quiet in
    redo_reaches settled end start.later start.current reply (same.later ∙ left.1.3.later) redone

-- ---- numbers

next_over : (old : Machine) (course : List Occurrence) (journals : List (List Entry)) (new : Machine) → RunsOver old course journals new →
    old.next ≤ new.next
next_over old [] journals new h = run_next old [] new h.1
next_over old (None ∷ course) journals new h = next_over (closed old) course h.0 new h.2
next_over old (Some e ∷ course) journals new h =
    let first = run_next old (e ∷ []) h.0 (h.0, h.1, refl) in
    let rest = next_over h.0 course journals new h.2 in
    omega (arith, first, rest)

pub numbers_rise_over_borders : NumbersRiseOverBorders
numbers_rise_over_borders start changed settled end basis next_basis first second change next_change between journals committed run again =
    let after : changed.next ≡ start.next + 1 = ap (λ (k : Content). k.next) committed.1.2.2 in
    let one : first ≡ start.next = committed.1.1 in
    let two : second ≡ settled.next = again.1.1 in
    let along = next_over changed between journals settled run in
    omega (arith, after, one, two, along)

-- ---- finished units

units_closed : (m : Machine) → UnitsAreCurrent m → UnitsAreCurrent (closed m)
units_closed m units = record { earlier = units.earlier; current = units.current; later = units.later }

units_over : (old : Machine) (course : List Occurrence) (journals : List (List Entry)) (new : Machine) → RunsOver old course journals new →
    UnitsAreCurrent old → UnitsAreCurrent new
units_over old [] journals new h units = subst UnitsAreCurrent (sym h.1) units
units_over old (None ∷ course) journals new h units = units_over (closed old) course h.0 new h.2 (units_closed old units)
units_over old (Some e ∷ course) journals new h units =
    units_over h.0 course journals new h.2 (steps_keep_units old h.0 e.0 e.1 h.1 units)

pub finished_stay_current : FinishedStayCurrent
finished_stay_current limits course journals m h = units_over (opening limits) course journals m h (opening_units limits)
