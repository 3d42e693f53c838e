-- Which events make a package wait. A change, an undo, a redo and a Job that is given back may do so, and a delivery that is refused. No other
-- event does.
use Rattle.std.proofs.Common.{◌≡◌, ℕ, ◌+◌, ◌<◌, ◌≤◌, List, [], ◌∷◌, ◌++◌, Some, None, length, get_or, slice_get, sym, ap, subst, ◌∙◌, ⊎_elim, arith}
use Rattle.std.specs.List.{Contains, remove}
use Rattle.std.proofs.lemmas.Bool.{cases_eq}
use Rattle.std.proofs.lemmas.List.{length-append}
use Rattle.std.proofs.lemmas.List.Edits.{length-remove}
use Rattle.std.proofs.lemmas.List.Elements.{Contains-append_left}
use Rattle.std.proofs.lemmas.List.Sorted.{Contains-permutation, IsPermutation-remove}
use Rattle.std.proofs.lemmas.Map.Made.{Contains-tail}
use Rattle.std.proofs.lemmas.Option.{get_or_from_slice_get, none-some, same_Some, slice_get-get_or, slice_get_within}
use Rattle.base_files.specs.declared.refusal.Refusal.TheVariants.{Memory, Moved, NothingToUndo, NothingToRedo, JournalFull, Stale, Already, NoJob}
use Rattle.base_files.specs.Packages.{package_paths}
use Rattle.build_carry.specs.Finished.{Table}
use Rattle.build_unit.specs.Jobs.{JobsOut, label_of}
use Rattle.build_unit.specs.declared.job.JobRecord.{JobRecord}
use Rattle.build_unit.specs.declared.out.JobLabel.{JobLabel}
use Rattle.build_unit.specs.declared.unit.Unit.{Unit as PackageUnit}
use Rattle.workspace_graph.proofs.Filled.{set_elsewhere, set_there}
use Rattle.history_book.specs.WorkLeft.{HasJob}
use Rattle.history_machine.specs.declared.entry.Entry.{Entry}
use Rattle.history_machine.specs.declared.entry.EntryKind.TheVariants as kind
use Rattle.history_machine.specs.declared.entry.Reason.TheVariants as reason
use Rattle.history_machine.specs.declared.entry.Told.{Told}
use Rattle.history_machine.specs.declared.entry.Told.TheVariants as told
use Rattle.history_machine.specs.declared.event.Event.{Event}
use Rattle.history_machine.specs.declared.event.Event.TheVariants.{Look, Log, Commit, Undo, Redo, Take, Deliver, GiveBack}
use Rattle.history_machine.specs.declared.event.Reply.{Reply}
use Rattle.history_machine.specs.declared.event.Reply.TheVariants.{Looked, Logged, Done, Taken, Refused, Back}
use Rattle.history_machine.specs.Journal.{event_kind, told_of}
use Rattle.history_machine.specs.Machine.{Content, FinishesPackage, Machine, content}
use Rattle.history_machine.specs.Step.{Step, entries_due}
use Rattle.history_machine.specs.Waiting.{WaitsIn}
use Rattle.server_shared.specs.Waking.{HasTable, MayWake, NoWakeMissed}

-- ---- what waits after an event that keeps the files
-- behind a Take no package waits that did not wait before: its Job is out, and all else stays
taken_waits : (old : Content) (label : JobLabel) (new : Content) → new ≡ record old {
  out = record {
    ticket = old.out.ticket + 1;
    jobs = old.out.jobs ++
        label ∷ [];
  };
} →
    (p : List ℕ) → WaitsIn new p → WaitsIn old p
taken_waits old label new is p waits =
    let here = subst (λ (c : Content). WaitsIn c p) is waits in
    record {
      is_package = here.is_package;
      unfinished = here.unfinished;
      untaken = λ taken. here.untaken (taken.0, Contains-append_left old.out.jobs (label ∷ []) taken.0 taken.1, taken.2, taken.3);
    }

-- behind a delivery that is done no package waits that did not wait before: the package whose Job is out no more is finished
delivered_waits : (old : Content) (job : JobRecord) (unit : PackageUnit) (new : Content) → HasTable old.current → FinishesPackage old job unit new →
    (p : List ℕ) → WaitsIn new p → WaitsIn old p
delivered_waits old job unit new sized done p waits =
    let here = subst (λ (c : Content). WaitsIn c p) done.4 waits in
    let paths = package_paths old.current.files in
    let n = done.3.0 in
    let within : n < length old.current.finished = subst (λ (k : ℕ). n < k) (sym sized) (slice_get_within paths n job.package done.3.1) in
    let gained : slice_get done.1 n ≡ Some (Some unit) =
    subst (λ (t : Table). slice_get t n ≡ Some (Some unit)) (sym done.3.2) (set_there old.current.finished n (get_or old.current.finished n None) (Some
    unit) (slice_get-get_or old.current.finished n None within)) in
    let is_other : job.package ≡ p → ⊥ = λ same. here.unfinished unit (n, done.3.1 ∙ ap (λ (q : List ℕ). Some q) same, gained) in
    record {
      is_package = here.is_package;
      unfinished = λ u finished. ⊎_elim
          (λ (at : finished.0 ≡ n). is_other (same_Some job.package p (sym done.3.1 ∙ ap (slice_get paths) (sym at) ∙ finished.1)))
          (λ (elsewhere : finished.0 ≡ n → ⊥). here.unfinished u (
            finished.0,
            finished.1,
            subst (λ (t : Table). slice_get t finished.0 ≡ Some (Some u)) (sym done.3.2)
                (set_elsewhere old.current.finished n finished.0 (Some unit) elsewhere ∙ finished.2),
          ))
          (cases_eq finished.0 n);
      untaken = λ taken.
          let label = taken.0 in
          let jobs = old.out.jobs in
          let place = done.2.place in
          let inside : place < length jobs = slice_get_within jobs place (label_of job) done.2.at in
          let out = IsPermutation-remove jobs place (label_of job) inside (sym (get_or_from_slice_get jobs place (label_of job) (label_of job) done.2.at)) in
          let among = Contains-permutation jobs (label_of job ∷ remove jobs place) label out taken.1 in
          let apart : label_of job ≡ label → ⊥ = λ same. is_other (ap (λ (l : JobLabel). l.package) same ∙ taken.3) in
          let left = Contains-tail (label_of job) (remove jobs place) label apart among in
          here.untaken (label, subst (λ (o : JobsOut). Contains o.jobs label) (sym done.2.others) left, taken.2, taken.3);
    }

-- ---- when a Take had a Job before
module _ (old new : Machine) (entry : Entry) (longer : new.journal ≡ old.journal ++ entry ∷ []) where
  length_is : length new.journal ≡ length old.journal + 1
  length_is = ap (λ (l : List Entry). length l) longer ∙ length-append old.journal (entry ∷ [])

  -- where the content stays
  stayed : content new ≡ content old → HasJob new → HasJob old
  stayed is has =
      let limits : new.limits.journal ≡ old.limits.journal = ap (λ (c : Content). c.limits.journal) is in
      let jobs : length new.out.jobs ≡ length old.out.jobs = ap (λ (c : Content). length c.out.jobs) is in
      let room : entries_due new + 2 ≤ new.limits.journal = has.0 in
      (omega (arith, room, limits, jobs, length_is), (has.1.0, subst (λ (c : Content). WaitsIn c has.1.0) is has.1.1))

  -- where a Job was taken
  took : (job : JobRecord) → content new ≡ record (content old) { out = record { ticket = old.out.ticket + 1; jobs = old.out.jobs ++ label_of job ∷ [] } } →
      HasJob new → HasJob old
  took job is has =
      let limits : new.limits.journal ≡ old.limits.journal = ap (λ (c : Content). c.limits.journal) is in
      let jobs : length new.out.jobs ≡ length old.out.jobs + 1 =
      ap (λ (c : Content). length c.out.jobs) is ∙ length-append old.out.jobs (label_of job ∷ []) in
      let room : entries_due new + 2 ≤ new.limits.journal = has.0 in
      (omega (arith, room, limits, jobs, length_is), (has.1.0, taken_waits (content old) (label_of job) (content new) is has.1.0 has.1.1))

  -- where a delivery was done
  delivered : (job : JobRecord) (unit : PackageUnit) → HasTable old.current → FinishesPackage (content old) job unit (content new) → HasJob new → HasJob old
  delivered job unit sized done has =
      let limits : new.limits.journal ≡ old.limits.journal = ap (λ (c : Content). c.limits.journal) done.4 in
      let inside : done.2.place < length old.out.jobs = slice_get_within old.out.jobs done.2.place (label_of job) done.2.at in
      let less : length new.out.jobs + 1 ≡ length old.out.jobs =
      ap (λ (c : Content). length c.out.jobs + 1) done.4 ∙ (ap (λ (o : JobsOut). length o.jobs + 1) done.2.others ∙ length-remove old.out.jobs done.2.place
      inside) in
      let room : entries_due new + 2 ≤ new.limits.journal = has.0 in
      (omega (arith, room, limits, less, length_is), (has.1.0, delivered_waits (content old) job unit (content new) sized done has.1.0 has.1.1))

  -- ---- each event
  wakes : (event : Event) (reply : Reply) (out : Told) → HasTable old.current → Step old event reply new → told_of reply ≡ Some out → ¬ (HasJob old) →
      HasJob new → MayWake (event_kind event) out
  wakes (Commit basis change) (Done number) out sized s tells none has = subst (MayWake kind.Commit) (same_Some (told.Done number) out tells) tt
  wakes (Undo basis) (Done number) out sized s tells none has = subst (MayWake kind.Undo) (same_Some (told.Done number) out tells) tt
  wakes (Redo basis) (Done number) out sized s tells none has = subst (MayWake kind.Redo) (same_Some (told.Done number) out tells) tt
  wakes (GiveBack job) (Done number) out sized s tells none has = subst (MayWake kind.GiveBack) (same_Some (told.Done number) out tells) tt
  wakes (Deliver job built) (Refused (Stale current)) out sized s tells none has =
      subst (MayWake kind.Deliver) (same_Some (told.Refused (reason.Stale current)) out tells) tt
  wakes (Deliver job built) (Refused Already) out sized s tells none has =
      subst (MayWake kind.Deliver) (same_Some (told.Refused reason.Already) out tells) tt
  wakes (Deliver job built) (Back NoJob back unit) out sized s tells none has = absurd (none (stayed s.1.2 has))
  wakes (Deliver job built) (Done number) out sized s tells none has = absurd (none (delivered job built.unit sized s.1.3 has))
  wakes Look (Looked view) out sized s tells none has = absurd (none (stayed s.1.1 has))
  wakes (Log asked) (Logged number line) out sized s tells none has = absurd (none (stayed s.1.1 has))
  wakes (Commit basis change) (Refused (Moved current)) out sized s tells none has = absurd (none (stayed s.1.2 has))
  wakes (Undo basis) (Refused (Moved current)) out sized s tells none has = absurd (none (stayed s.1.2 has))
  wakes (Undo basis) (Refused NothingToUndo) out sized s tells none has = absurd (none (stayed s.1.2 has))
  wakes (Redo basis) (Refused (Moved current)) out sized s tells none has = absurd (none (stayed s.1.2 has))
  wakes (Redo basis) (Refused NothingToRedo) out sized s tells none has = absurd (none (stayed s.1.2 has))
  wakes Take (Taken job) out sized s tells none has = absurd (none (took job s.1.1 has))
  wakes Take (Refused NoJob) out sized s tells none has = absurd (none (stayed s.1.1 has))
  wakes (GiveBack job) (Back NoJob back unit) out sized s tells none has = absurd (none (stayed s.1.2 has))
  wakes event (Refused Memory) out sized s tells none has = absurd (none-some out tells)
  wakes event (Refused JournalFull) out sized s tells none has = absurd (none-some out tells)
  wakes event (Back Memory back unit) out sized s tells none has = absurd (none-some out tells)
  wakes event (Back JournalFull back unit) out sized s tells none has = absurd (none-some out tells)
  wakes event reply out sized s tells none has = absurd s.1

pub no_wake_missed : NoWakeMissed
no_wake_missed old new event reply entry sized s none has =
    subst (λ (x : Entry). MayWake x.line.kind x.line.out) (sym s.1.0.2) (wakes old new entry s.1.1 event reply s.1.0.0 sized s.0 s.1.0.1 none has)
