-- From contents of one outline an entry leads to contents of one outline.
use Rattle.std.proofs.Common.{◌≡◌, ℕ, ◌+◌, ◌<◌, ◌⊎◌, inl, inr, Bool, true, List, [], ◌∷◌, ◌++◌, Some, Contains, slice_get, slice_set, remove, map}
use Rattle.std.proofs.Common.{refl, sym, ap, subst, ◌∙◌, arith}
use Rattle.std.proofs.lemmas.Bool.{cases_lt}
use Rattle.std.proofs.lemmas.List.{map-set}
use Rattle.std.proofs.lemmas.Option.{same_Some}
use Rattle.std.specs.Option.{is_some}
use Rattle.base_edits.specs.EditSet.{FileChanges, edited}
use Rattle.base_files.specs.Packages.{package_paths}
use Rattle.base_files.specs.Workspace.{Workspace}
use Rattle.build_carry.specs.Carried.{IsCarried}
use Rattle.build_carry.specs.Finished.{Table}
use Rattle.build_unit.specs.Jobs.{JobsOut, IsTakenInVisit, with_job}
use Rattle.build_unit.specs.declared.out.JobLabel.{JobLabel}
use Rattle.history_machine.specs.Machine.{Content, BeginsVisit, IsOneBefore, changed, with_finished}
use Rattle.history_machine.specs.State.{State}
use Rattle.history_machine.specs.Waiting.{IsFirstWaiting, IsWaiting}
use Rattle.history_machine.specs.declared.entry.Entry.{Entry}
use Rattle.history_machine.specs.declared.entry.EntryKind.{EntryKind}
use Rattle.history_machine.specs.declared.entry.EntryKind.TheVariants.{Look, Log, Commit, Undo, Redo, Take, Deliver, GiveBack}
use Rattle.history_machine.specs.declared.entry.Reason.TheVariants.{Moved, NothingToUndo, NothingToRedo, Stale, Already, NoJob}
use Rattle.history_machine.specs.declared.entry.Told.{Told}
use Rattle.history_machine.specs.declared.entry.Told.TheVariants.{Done, Refused}
use Rattle.law_history.specs.Replays.{CommitsEdits, FinishesTicket, HasEffect, LosesTicket, Outline}
use Rattle.law_history.specs.Replays.{ReturnsTicket, StateOutline, TakesNext, outline, state_outline}
use Rattle.law_history.proofs.Outlines.{IsLike, carried_alike, finished_too, like_of, newest_pushed, outline_of, popped_same, pushed_same, state_same}
use Rattle.law_history.proofs.Tickets.{TicketsRise, one_place, rise_push, rise_remove}
use Rattle.workspace_graph.proofs.PackagePaths.{one_number, paths_sorted}

-- the tickets of the Jobs out rise, and are less than the next
abbrev pub Rises : JobsOut → Type 0
Rises out = TicketsRise 0 out.ticket out.jobs

files_same : (a b : State) → state_outline a ≡ state_outline b → a.files ≡ b.files
files_same a b e = ap (λ (s : StateOutline). s.files) e

marks_same : (a b : State) → state_outline a ≡ state_outline b → map is_some a.finished ≡ map is_some b.finished
marks_same a b e = ap (λ (s : StateOutline). s.finished) e

-- ---- nothing changes

stays_like : (c d c' d' : Content) → outline c ≡ outline d → c' ≡ c → d' ≡ d → outline c' ≡ outline d'
stays_like c d c' d' e one other = ap outline one ∙ e ∙ sym (ap outline other)

-- ---- changes

commits_like : (c d c' d' : Content) (entry : Entry) → outline c ≡ outline d → CommitsEdits c entry.edits c' → CommitsEdits d entry.edits d' →
    outline c' ≡ outline d'
commits_like c d c' d' entry e one other =
    let l = like_of c d e in
    let files = files_same c.current d.current l.current in
    let edits : one.edits ≡ other.edits = same_Some one.edits other.edits (sym one.has_edits ∙ other.has_edits) in
    let w : Workspace = edited other.edits d.current.files in
    let after : edited one.edits c.current.files ≡ w = ap (λ s. edited s c.current.files) edits ∙ ap (edited other.edits) files in
    let carried : IsCarried d.current.files c.current.finished w one.finished =
    subst (λ (x : Workspace). IsCarried x c.current.finished w one.finished) files
    (subst (λ (x : Workspace). IsCarried c.current.files c.current.finished x one.finished) after one.carried) in
    let marks = carried_alike d.current.files w c.current.finished d.current.finished one.finished other.finished (marks_same c.current d.current l.current)
    carried other.carried in
    ap outline one.is_changed
    ∙ outline_of (changed c (edited one.edits c.current.files) one.finished) (changed d w other.finished) (record {
      limits = l.limits;
      earlier = newest_pushed c d l;
      current = state_same (record { number = c.next; files = edited one.edits c.current.files; finished = one.finished })
          (record { number = d.next; files = w; finished = other.finished }) l.next after marks;
      later = refl;
      next = ap (λ n. n + 1) l.next;
      visit = ap (λ n. n + 1) l.visit;
      out = l.out;
    })
    ∙ sym (ap outline other.is_changed)

-- ---- undo and redo

undoes_like : (c d c' d' : Content) → outline c ≡ outline d → BeginsVisit c c' × IsOneBefore c' c → BeginsVisit d d' × IsOneBefore d' d →
    outline c' ≡ outline d'
undoes_like c d c' d' e one other =
    let l = like_of c d e in
    let popped = popped_same c'.earlier d'.earlier c'.current d'.current
    (sym (ap (map state_outline) one.1.earlier) ∙ l.earlier ∙ ap (map state_outline) other.1.earlier) in
    outline_of c' d' (record {
      limits = one.1.limits ∙ l.limits ∙ sym other.1.limits;
      earlier = popped.0;
      current = popped.1;
      later = ap (map state_outline) one.1.later ∙ pushed_same c.later d.later c.current d.current l.later l.current ∙ sym (ap (map state_outline)
          other.1.later);
      next = one.1.next ∙ l.next ∙ sym other.1.next;
      visit = one.0.visit ∙ ap (λ n. n + 1) l.visit ∙ sym other.0.visit;
      out = one.0.out ∙ l.out ∙ sym other.0.out;
    })

redoes_like : (c d c' d' : Content) → outline c ≡ outline d → BeginsVisit c c' × IsOneBefore c c' → BeginsVisit d d' × IsOneBefore d d' →
    outline c' ≡ outline d'
redoes_like c d c' d' e one other =
    let l = like_of c d e in
    let popped = popped_same c'.later d'.later c'.current d'.current
    (sym (ap (map state_outline) one.1.later) ∙ l.later ∙ ap (map state_outline) other.1.later) in
    outline_of c' d' (record {
      limits = sym one.1.limits ∙ l.limits ∙ other.1.limits;
      earlier = ap (map state_outline) one.1.earlier ∙ pushed_same c.earlier d.earlier c.current d.current l.earlier l.current
          ∙ sym (ap (map state_outline) other.1.earlier);
      current = popped.1;
      later = popped.0;
      next = sym one.1.next ∙ l.next ∙ other.1.next;
      visit = one.0.visit ∙ ap (λ n. n + 1) l.visit ∙ sym other.0.visit;
      out = one.0.out ∙ l.out ∙ sym other.0.out;
    })

-- ---- a Job is handed out

waits_too : (a b : State) (out : JobsOut) (visit : ℕ) (p : List ℕ) → state_outline a ≡ state_outline b → IsWaiting a out visit p → IsWaiting b out visit p
waits_too a b out visit p e w = record {
  is_package = subst (λ (x : Workspace). Contains (package_paths x) p) (files_same a b e) w.is_package;
  unfinished = λ unit f.
      let other = finished_too b.files a.files b.finished a.finished (sym (files_same a b e)) (sym (marks_same a b e)) p unit f in w.unfinished other.0 other.1;
  untaken = w.untaken;
}

first_same : (a b : State) (out : JobsOut) (visit : ℕ) (p q : List ℕ) → state_outline a ≡ state_outline b → IsFirstWaiting a out visit p →
    IsFirstWaiting b out visit q → p ≡ q
first_same a b out visit p q e one other =
    let here : slice_get (package_paths a.files) other.number ≡ Some q = ap (λ x. slice_get (package_paths x) other.number) (files_same a b e) ∙ other.at in
    let there : slice_get (package_paths b.files) one.number ≡ Some p = sym (ap (λ x. slice_get (package_paths x) one.number) (files_same a b e)) ∙ one.at in
    elim (cases_lt one.number other.number) [
      | inl before ↦ absurd (other.first one.number p before there (waits_too a b out visit p e one.waiting))
      | inr behind ↦ elim (cases_lt other.number one.number) [
        | inl before ↦ absurd (one.first other.number q before here (waits_too b a out visit q (sym e) other.waiting))
        | inr level ↦ (
            let same : one.number ≡ other.number = omega (arith, behind, level) in
            same_Some p q (sym one.at ∙ ap (slice_get (package_paths a.files)) same ∙ here)
            )
      ]
    ]

label_with : ℕ → ℕ → ℕ → List ℕ → JobLabel
label_with ticket number visit path = record { ticket = ticket; number = number; visit = visit; «package» = path }

label_same : (a b : JobLabel) → a.ticket ≡ b.ticket → a.number ≡ b.number → a.visit ≡ b.visit → a.package ≡ b.package → a ≡ b
unfolding label_with
label_same a b ticket number visit path =
    ap (λ x. label_with x a.number a.visit a.package) ticket ∙ ap (λ x. label_with b.ticket x a.visit a.package) number
    ∙ ap (λ x. label_with b.ticket b.number x a.package) visit ∙ ap (label_with b.ticket b.number b.visit) path

out_like : (c d : Content) (out more : JobsOut) → IsLike c d → out ≡ more → outline (record c { out = out }) ≡ outline (record d { out = more })
out_like c d out more l same = outline_of (record c { out = out }) (record d { out = more }) (record {
  limits = l.limits;
  earlier = l.earlier;
  current = l.current;
  later = l.later;
  next = l.next;
  visit = l.visit;
  out = same;
})

takes_like : (c d c' d' : Content) → outline c ≡ outline d → TakesNext c c' → TakesNext d d' → outline c' ≡ outline d'
takes_like c d c' d' e one other =
    let l = like_of c d e in
    let first : IsFirstWaiting d.current c.out c.visit other.label.package =
    subst (λ (x : JobsOut). IsFirstWaiting d.current x c.visit other.label.package) (sym l.out)
    (subst (λ n. IsFirstWaiting d.current d.out n other.label.package) (sym l.visit) other.first) in
    let path = first_same c.current d.current c.out c.visit one.label.package other.label.package l.current one.first first in
    let label : one.label ≡ other.label = label_same one.label other.label (one.ticket ∙ ap (λ (o : JobsOut). o.ticket) l.out ∙ sym other.ticket)
    (one.number ∙ ap (λ (s : StateOutline). s.number) l.current ∙ sym other.number) (one.visit ∙ l.visit ∙ sym other.visit) path in
    ap outline one.is_out
    ∙ out_like c d (with_job c.out one.label) (with_job d.out other.label) l (ap (λ o. with_job o one.label) l.out ∙ ap (with_job d.out) label)
    ∙ sym (ap outline other.is_out)

-- ---- a Job comes back

-- The Job of a ticket has one label, and leaves the same Jobs out.
returned_same : (a b : JobsOut) (entry : Entry) (la lb : JobLabel) (oa ob : JobsOut) → a ≡ b → Rises b → ReturnsTicket a entry.subject la oa →
    ReturnsTicket b entry.subject lb ob → (la ≡ lb) × (oa ≡ ob)
returned_same a b entry la lb oa ob same rise one other =
    let ticket : la.ticket ≡ lb.ticket = same_Some la.ticket lb.ticket (sym one.has_ticket ∙ other.has_ticket) in
    let at : slice_get b.jobs one.removes.place ≡ Some la = sym (ap (λ (o : JobsOut). slice_get o.jobs one.removes.place) same) ∙ one.removes.at in
    let place = one_place 0 b.ticket b.jobs one.removes.place other.removes.place la lb at other.removes.at ticket rise in
    let left : JobsOut → ℕ → JobsOut = λ o k. record { ticket = o.ticket; jobs = remove o.jobs k } in (
      same_Some la lb (sym at ∙ ap (slice_get b.jobs) place ∙ other.removes.at),
      one.removes.others ∙ ap (λ (o : JobsOut). left o one.removes.place) same ∙ ap (left b) place ∙ sym other.removes.others,
    )

loses_like : (c d c' d' : Content) (entry : Entry) → outline c ≡ outline d → Rises d.out → LosesTicket c entry.subject c' →
    LosesTicket d entry.subject d' → outline c' ≡ outline d'
loses_like c d c' d' entry e rise one other =
    let l = like_of c d e in
    let back = returned_same c.out d.out entry one.label other.label one.out other.out l.out rise one.returns other.returns in
    ap outline one.is_lost ∙ out_like c d one.out other.out l back.1 ∙ sym (ap outline other.is_lost)

finishes_like : (c d c' d' : Content) (entry : Entry) → outline c ≡ outline d → Rises d.out → FinishesTicket c entry.subject c' →
    FinishesTicket d entry.subject d' → outline c' ≡ outline d'
finishes_like c d c' d' entry e rise one other =
    let l = like_of c d e in
    let back = returned_same c.out d.out entry one.label other.label one.out other.out l.out rise one.returns other.returns in
    let w = d.current.files in
    let files = files_same c.current d.current l.current in
    let at : slice_get (package_paths w) one.gains.0 ≡ Some other.label.package =
    sym (ap (λ x. slice_get (package_paths x) one.gains.0) files) ∙ one.gains.1 ∙ ap (λ (x : JobLabel). Some x.package) back.0 in
    let number = one_number (package_paths w) (paths_sorted w) one.gains.0 other.gains.0 other.label.package at other.gains.1 in
    let marks : map is_some one.finished ≡ map is_some other.finished =
    ap (map is_some) one.gains.2 ∙ map-set is_some c.current.finished one.gains.0 (Some one.unit)
    ∙ ap (λ ms. slice_set ms one.gains.0 true) (marks_same c.current d.current l.current)
    ∙ ap (λ n. slice_set (map is_some d.current.finished) n true) number
    ∙ sym (map-set is_some d.current.finished other.gains.0 (Some other.unit)) ∙ sym (ap (map is_some) other.gains.2) in
    ap outline one.is_finished
    ∙ outline_of (record c { current = with_finished c.current one.finished; out = one.out })
    (record d { current = with_finished d.current other.finished; out = other.out }) (record {
      limits = l.limits;
      earlier = l.earlier;
      current = state_same (with_finished c.current one.finished) (with_finished d.current other.finished) (ap (λ (s : StateOutline). s.number) l.current)
          files marks;
      later = l.later;
      next = l.next;
      visit = l.visit;
      out = back.1;
    })
    ∙ sym (ap outline other.is_finished)

-- ---- an entry

pub effects_like : (kind : EntryKind) (told : Told) (c d c' d' : Content) (entry : Entry) → outline c ≡ outline d → Rises d.out →
    HasEffect kind told c entry c' → HasEffect kind told d entry d' → outline c' ≡ outline d'
effects_like Look told c d c' d' entry e rise one other = stays_like c d c' d' e one other
effects_like Log told c d c' d' entry e rise one other = stays_like c d c' d' e one other
effects_like Commit (Done number) c d c' d' entry e rise one other = commits_like c d c' d' entry e one other
effects_like Commit (Refused reason) c d c' d' entry e rise one other = stays_like c d c' d' e one other
effects_like Undo (Done number) c d c' d' entry e rise one other = undoes_like c d c' d' e one other
effects_like Undo (Refused reason) c d c' d' entry e rise one other = stays_like c d c' d' e one other
effects_like Redo (Done number) c d c' d' entry e rise one other = redoes_like c d c' d' e one other
effects_like Redo (Refused reason) c d c' d' entry e rise one other = stays_like c d c' d' e one other
effects_like Take (Done number) c d c' d' entry e rise one other = takes_like c d c' d' e one other
effects_like Take (Refused reason) c d c' d' entry e rise one other = stays_like c d c' d' e one other
effects_like Deliver (Done number) c d c' d' entry e rise one other = finishes_like c d c' d' entry e rise one other
effects_like Deliver (Refused NoJob) c d c' d' entry e rise one other = stays_like c d c' d' e one other
effects_like Deliver (Refused (Moved current)) c d c' d' entry e rise one other = loses_like c d c' d' entry e rise one other
effects_like Deliver (Refused NothingToUndo) c d c' d' entry e rise one other = loses_like c d c' d' entry e rise one other
effects_like Deliver (Refused NothingToRedo) c d c' d' entry e rise one other = loses_like c d c' d' entry e rise one other
effects_like Deliver (Refused (Stale current)) c d c' d' entry e rise one other = loses_like c d c' d' entry e rise one other
effects_like Deliver (Refused Already) c d c' d' entry e rise one other = loses_like c d c' d' entry e rise one other
effects_like GiveBack (Done number) c d c' d' entry e rise one other = loses_like c d c' d' entry e rise one other
effects_like GiveBack (Refused reason) c d c' d' entry e rise one other = stays_like c d c' d' e one other

-- ---- tickets keep rising

stays_rising : (c c' : Content) → c'.out ≡ c.out → Rises c.out → Rises c'.out
stays_rising c c' same rise = subst Rises (sym same) rise

returned_rises : (old : JobsOut) (entry : Entry) (label : JobLabel) (out : JobsOut) → ReturnsTicket old entry.subject label out → Rises old → Rises out
returned_rises old entry label out r rise =
    subst Rises (sym r.removes.others) (rise_remove 0 old.ticket old.jobs r.removes.place label r.removes.at rise)

lost_rises : (c c' : Content) (entry : Entry) → LosesTicket c entry.subject c' → Rises c.out → Rises c'.out
lost_rises c c' entry lost rise =
    subst Rises (sym (ap (λ (x : Content). x.out) lost.is_lost)) (returned_rises c.out entry lost.label lost.out lost.returns rise)

pub effects_rise : (kind : EntryKind) (told : Told) (c c' : Content) (entry : Entry) → HasEffect kind told c entry c' → Rises c.out → Rises c'.out
effects_rise Look told c c' entry is rise = stays_rising c c' (ap (λ (x : Content). x.out) is) rise
effects_rise Log told c c' entry is rise = stays_rising c c' (ap (λ (x : Content). x.out) is) rise
effects_rise Commit (Done number) c c' entry is rise = stays_rising c c' (ap (λ (x : Content). x.out) is.is_changed) rise
effects_rise Commit (Refused reason) c c' entry is rise = stays_rising c c' (ap (λ (x : Content). x.out) is) rise
effects_rise Undo (Done number) c c' entry is rise = stays_rising c c' is.0.out rise
effects_rise Undo (Refused reason) c c' entry is rise = stays_rising c c' (ap (λ (x : Content). x.out) is) rise
effects_rise Redo (Done number) c c' entry is rise = stays_rising c c' is.0.out rise
effects_rise Redo (Refused reason) c c' entry is rise = stays_rising c c' (ap (λ (x : Content). x.out) is) rise
effects_rise Take (Done number) c c' entry is rise =
    subst Rises (sym (ap (λ (x : Content). x.out) is.is_out)) (rise_push 0 c.out.ticket c.out.jobs is.label is.ticket rise)
effects_rise Take (Refused reason) c c' entry is rise = stays_rising c c' (ap (λ (x : Content). x.out) is) rise
effects_rise Deliver (Done number) c c' entry is rise =
    subst Rises (sym (ap (λ (x : Content). x.out) is.is_finished)) (returned_rises c.out entry is.label is.out is.returns rise)
effects_rise Deliver (Refused NoJob) c c' entry is rise = stays_rising c c' (ap (λ (x : Content). x.out) is) rise
effects_rise Deliver (Refused (Moved current)) c c' entry is rise = lost_rises c c' entry is rise
effects_rise Deliver (Refused NothingToUndo) c c' entry is rise = lost_rises c c' entry is rise
effects_rise Deliver (Refused NothingToRedo) c c' entry is rise = lost_rises c c' entry is rise
effects_rise Deliver (Refused (Stale current)) c c' entry is rise = lost_rises c c' entry is rise
effects_rise Deliver (Refused Already) c c' entry is rise = lost_rises c c' entry is rise
effects_rise GiveBack (Done number) c c' entry is rise = lost_rises c c' entry is rise
effects_rise GiveBack (Refused reason) c c' entry is rise = stays_rising c c' (ap (λ (x : Content). x.out) is) rise
