-- Chapters are replayed one behind the other, so the entries of all of them lead from the first content to the last.
use Rattle.std.proofs.Common.{◌≡◌, ◌+◌, List, [], ◌∷◌, ◌++◌, length, refl, sym, ap, subst, ◌∙◌, length-append, arith}
use Rattle.base_files.specs.declared.limits.Limits.{Limits}
use Rattle.history_machine.specs.Chapters.{AreClosed, IsChapter, LeadsOver, after_chapter, all_entries}
use Rattle.history_machine.specs.Current.{UnitsAreCurrent}
use Rattle.history_machine.specs.Machine.{Content, Machine, content, opening, with_journal}
use Rattle.history_machine.specs.Run.{IsReplay, Run}
use Rattle.history_machine.specs.State.{State}
use Rattle.history_machine.specs.declared.entry.Entry.{Entry}
use Rattle.history_machine.specs.declared.event.Event.{Event}
use Rattle.history_machine.specs.declared.event.Reply.{Reply}
use Rattle.history_machine.proofs.CurrentLaws.{finished_are_current, steps_keep_units}
use Rattle.history_machine.proofs.Reaching.{step_begun}
use Rattle.law_history.specs.Replays.{StateOutline, outline}
use Rattle.law_history.proofs.Outlines.{like_of}
use Rattle.law_history.proofs.Runs.{Replayed, replayed_like, replayed_on, run_adds, units_each, units_same}
use Rattle.law_history.proofs.Unique.{Rises}
use Rattle.law_chapters.specs.Chapters.{BordersDoNotCount, ChaptersGoOn, EntriesAreCounted, OneChapterIsReplayed}
use Rattle.law_chapters.proofs.Plain.{plain, plain_replayed}

pub one_chapter_is_replayed : OneChapterIsReplayed
one_chapter_is_replayed limits journal c = (
  λ h. subst (λ (x : Content). IsChapter x journal c) h.1 h.2,
  λ r. (content (opening limits), refl, r),
)

-- ---- chapters that follow others

parted : (start end : Content) (journals more : List (List Entry)) → AreClosed start (journals ++ more) end →
    (mid : Content) × AreClosed start journals mid × AreClosed mid more end
parted start end [] more h = (start, refl, h)
parted start end (journal ∷ journals) more h =
    let rest = parted (after_chapter h.0 journal) end journals more h.2 in (rest.0, (h.0, h.1, rest.1), rest.2)

followed : (start mid end : Content) (journals more : List (List Entry)) → AreClosed start journals mid → AreClosed mid more end →
    AreClosed start (journals ++ more) end
followed start mid end [] more one other = subst (λ (x : Content). AreClosed x more end) one other
followed start mid end (journal ∷ journals) more one other =
    (one.0, one.1, followed (after_chapter one.0 journal) mid end journals more one.2 other)

pub chapters_go_on : ChaptersGoOn
chapters_go_on start end journals more = (parted start end journals more, λ h. followed start h.0 end journals more h.1 h.2)

-- ---- how many entries were closed

run_begun : (old : Machine) (events : List (Event × Reply)) (new : Machine) → Run old events new → new.begun ≡ old.begun
run_begun old [] new run = ap (λ (m : Machine). m.begun) run
run_begun old (e ∷ events) new run = run_begun run.0 events new run.2 ∙ step_begun old e.0 e.1 run.0 run.1

pub entries_are_counted : EntriesAreCounted
entries_are_counted start end [] h = omega (arith, ap (λ (c : Content). c.begun) h)
entries_are_counted start end (journal ∷ journals) h =
    let here : h.0.begun ≡ start.begun = run_begun (with_journal start []) h.1.0 (with_journal h.0 journal) h.1.1 in
    let rest = entries_are_counted (after_chapter h.0 journal) end journals h.2 in
    omega (arith, here, rest, length-append journal (all_entries journals))

-- ---- what the entries make of the content

chapter_replayed : (start end : Content) (journal : List Entry) → IsChapter start journal end → Replayed (plain start) journal (plain end)
chapter_replayed start end journal h =
    let adds = run_adds (with_journal start []) h.0 (with_journal end journal) h.1 in
    plain_replayed start journal end (subst (λ (es : List Entry). Replayed start es end) (sym adds.journal) adds.replayed)

closed_replayed : (start end : Content) (journals : List (List Entry)) → AreClosed start journals end →
    Replayed (plain start) (all_entries journals) (plain end)
closed_replayed start end [] h = ap plain h
closed_replayed start end (journal ∷ journals) h =
    replayed_on (plain start) (plain h.0) (plain end) journal (all_entries journals) (chapter_replayed start h.0 journal h.1)
    (closed_replayed (after_chapter h.0 journal) end journals h.2)

whole_replayed : (start end : Content) (journals : List (List Entry)) (last : List Entry) → LeadsOver start journals last end →
    Replayed (plain start) (all_entries journals ++ last) (plain end)
whole_replayed start end journals last h =
    replayed_on (plain start) (plain h.0) (plain end) (all_entries journals) last (closed_replayed start h.0 journals h.1)
    (chapter_replayed h.0 end last h.2)

-- ---- finished units

run_keeps_units : (old : Machine) (events : List (Event × Reply)) (new : Machine) → Run old events new → UnitsAreCurrent old → UnitsAreCurrent new
run_keeps_units old [] new run units = subst UnitsAreCurrent (sym run) units
run_keeps_units old (e ∷ events) new run units =
    run_keeps_units run.0 events new run.2 (steps_keep_units old run.0 e.0 e.1 run.1 units)

-- neither the journal nor the count of closed entries has a say
units_beside : (c d : Content) (journal other : List Entry) → c.earlier ≡ d.earlier → c.current ≡ d.current → c.later ≡ d.later →
    UnitsAreCurrent (with_journal c journal) → UnitsAreCurrent (with_journal d other)
units_beside c d journal other earlier current later units = subst UnitsAreCurrent
    (λ i. record (with_journal d other) { earlier = earlier i; current = current i; later = later i })
    (record { earlier = units.earlier; current = units.current; later = units.later })

chapter_keeps_units : (start end : Content) (journal : List Entry) → IsChapter start journal end → UnitsAreCurrent (with_journal start []) →
    UnitsAreCurrent (with_journal end journal)
chapter_keeps_units start end journal h units = run_keeps_units (with_journal start []) h.0 (with_journal end journal) h.1 units

closed_keep_units : (start end : Content) (journals : List (List Entry)) → AreClosed start journals end → UnitsAreCurrent (with_journal start []) →
    UnitsAreCurrent (with_journal end [])
closed_keep_units start end [] h units = subst (λ (c : Content). UnitsAreCurrent (with_journal c [])) (sym h) units
closed_keep_units start end (journal ∷ journals) h units =
    let here = chapter_keeps_units start h.0 journal h.1 units in
    closed_keep_units (after_chapter h.0 journal) end journals h.2
    (units_beside h.0 (after_chapter h.0 journal) journal [] refl refl refl here)

whole_keeps_units : (start end : Content) (journals : List (List Entry)) (last : List Entry) → LeadsOver start journals last end →
    UnitsAreCurrent (with_journal start []) → UnitsAreCurrent (with_journal end last)
whole_keeps_units start end journals last h units = chapter_keeps_units h.0 end last h.2 (closed_keep_units start h.0 journals h.1 units)

pub opening_units : (limits : Limits) → UnitsAreCurrent (opening limits)
opening_units limits = finished_are_current limits [] (opening limits) refl

pub borders_do_not_count : BordersDoNotCount
borders_do_not_count limits journals others last another c d same one other =
    let start : Content = content (opening limits) in
    let entries = all_entries others ++ another in
    let rise : Rises start.out = omega arith in
    let first = subst (λ (es : List Entry). Replayed (plain start) es (plain c)) same (whole_replayed start c journals last one) in
    let like : outline (plain c) ≡ outline (plain d) =
    replayed_like entries (plain start) (plain start) (plain c) (plain d) refl rise first (whole_replayed start d others another other) in
    let l = like_of (plain c) (plain d) like in
    let units = whole_keeps_units start c journals last one (opening_units limits) in
    let more = whole_keeps_units start d others another other (opening_units limits) in
    record {
      outlines = like;
      earlier = units_each c.earlier d.earlier l.earlier units.earlier more.earlier;
      current = units_same c.current d.current (ap (λ (s : StateOutline). s.files) l.current) units.current more.current;
      later = units_each c.later d.later l.later units.later more.later;
    }
