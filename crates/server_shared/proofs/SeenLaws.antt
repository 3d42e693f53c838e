-- Which events keep the current files, and what a Job brings that was taken with them.
use Rattle.std.proofs.Common.{◌≡◌, ℕ, Bool, true, false, List, [], ◌∷◌, ◌++◌, IsTrue, MatchBool, ◌↔◌, Option}
use Rattle.std.proofs.Common.{Some, None, Result, Ok, Err, IfOk, IfSome, MatchOption, inl, inr, refl, sym, ap, subst}
use Rattle.std.proofs.lemmas.Bool.{false≢true}
use Rattle.std.proofs.lemmas.Option.{none-some, same_Some}
use Rattle.base_files.specs.Workspace.{Workspace}
use Rattle.base_files.specs.declared.refusal.Refusal.{Refusal}
use Rattle.base_files.specs.declared.refusal.Refusal.TheVariants.{Disk, Memory, Moved, NothingToUndo, NothingToRedo, JournalFull, Stale, Already, NoJob}
use Rattle.build_unit.specs.Inputs.{AreInputs}
use Rattle.build_unit.specs.declared.built.Built.{Built}
use Rattle.build_unit.specs.declared.job.JobRecord.{JobRecord}
use Rattle.history_machine.specs.declared.entry.Entry.{Entry}
use Rattle.history_machine.specs.declared.entry.EntryKind.TheVariants as kind
use Rattle.history_machine.specs.declared.entry.Told.{Told}
use Rattle.history_machine.specs.declared.entry.Told.TheVariants as told
use Rattle.history_machine.specs.declared.event.Event.{Event}
use Rattle.history_machine.specs.declared.event.Event.TheVariants.{Look, Log, Commit, Undo, Redo, Take, Deliver, GiveBack}
use Rattle.history_machine.specs.declared.event.Reply.{Reply}
use Rattle.history_machine.specs.declared.event.Reply.TheVariants.{Looked, Logged, Done, Taken, Refused, Back}
use Rattle.history_machine.specs.Journal.{event_kind, told_of}
use Rattle.history_machine.specs.JournalSteps.{JournalStep}
use Rattle.history_machine.specs.Machine.{Content, Machine}
use Rattle.history_machine.specs.Step.{Step, taken}
use Rattle.history_book.specs.CurrentInputs.{HasCurrentInputs}
use Rattle.law_changes.specs.Changes.{change_done}
use Rattle.server_journal.specs.Keeping.{KeepsHistory, KeptStep}
use Rattle.server_journal.proofs.KeptLaws.{unneeded_keeps}
use Rattle.server_versions.specs.Growing.{IsLastVersion}
use Rattle.server_versions.proofs.Beginnings.{last_added, same_last}
use Rattle.server_shared.specs.declared.receipt.Receipt.{Receipt}
use Rattle.server_shared.specs.SeenFiles.{BringsInputs, EndsBehind, MayChangeFiles}
use Rattle.server_shared.specs.Steps.{KeptReceiptStep, ReceiptStep}
use Rattle.server_shared.specs.Working.{TakesJob}

files_in : Content → Workspace
files_in c = c.current.files

-- what was done, by its outcome
done_out : (number : ℕ) (out : Told) → Some (told.Done number) ≡ Some out → told.Done number ≡ out
done_out number out is = same_Some (told.Done number) out is

-- a step keeps the current files, unless it is a change, an undo or a redo that is done
pub files_stay : (old : Machine) (event : Event) (reply : Reply) (new : Machine) (out : Told) → Step old event reply new → told_of reply ≡ Some out →
    ¬ (MayChangeFiles (event_kind event) out) → new.current.files ≡ old.current.files
unfolding files_in
files_stay old Look (Looked view) new out s is stays = ap files_in s.1.1
files_stay old (Log asked) (Logged number line) new out s is stays = ap files_in s.1.1
files_stay old (Commit basis change) (Done number) new out s is stays = absurd (stays (subst (MayChangeFiles kind.Commit) (done_out number out is) tt))
files_stay old (Commit basis change) (Refused (Moved current)) new out s is stays = ap files_in s.1.2
files_stay old (Undo basis) (Done number) new out s is stays = absurd (stays (subst (MayChangeFiles kind.Undo) (done_out number out is) tt))
files_stay old (Undo basis) (Refused (Moved current)) new out s is stays = ap files_in s.1.2
files_stay old (Undo basis) (Refused NothingToUndo) new out s is stays = ap files_in s.1.2
files_stay old (Redo basis) (Done number) new out s is stays = absurd (stays (subst (MayChangeFiles kind.Redo) (done_out number out is) tt))
files_stay old (Redo basis) (Refused (Moved current)) new out s is stays = ap files_in s.1.2
files_stay old (Redo basis) (Refused NothingToRedo) new out s is stays = ap files_in s.1.2
files_stay old Take (Taken job) new out s is stays = ap files_in s.1.1
files_stay old Take (Refused NoJob) new out s is stays = ap files_in s.1.1
files_stay old (Deliver job built) (Back NoJob back unit) new out s is stays = ap files_in s.1.2
files_stay old (Deliver job built) (Refused (Stale current)) new out s is stays = ap files_in s.1.2.2
files_stay old (Deliver job built) (Refused Already) new out s is stays = ap files_in s.1.2.2
files_stay old (Deliver job built) (Done number) new out s is stays = ap files_in s.1.3.4
files_stay old (GiveBack job) (Back NoJob back unit) new out s is stays = ap files_in s.1.2
files_stay old (GiveBack job) (Done number) new out s is stays = ap files_in s.1.1.2
files_stay old event (Refused Memory) new out s is stays = absurd (none-some out is)
files_stay old event (Refused JournalFull) new out s is stays = absurd (none-some out is)
files_stay old event (Back Memory job unit) new out s is stays = absurd (none-some out is)
files_stay old event (Back JournalFull job unit) new out s is stays = absurd (none-some out is)
files_stay old event reply new out s is stays = absurd s.1

-- a delivery changes no files
delivers_none : (out : Told) → ¬ (MayChangeFiles kind.Deliver out)
delivers_none (told.Done number) may = may
delivers_none (told.Refused reason) may = may

-- a step with this entry keeps the current files, unless the entry is of a change
entry_stays : (old : Machine) (event : Event) (reply : Reply) (entry : Entry) (new : Machine) → JournalStep old event reply (Some entry) new →
    ¬ (MayChangeFiles entry.line.kind entry.line.out) → new.current.files ≡ old.current.files
entry_stays old event reply entry new s stays =
    let is = s.1.0 in
    files_stay old event reply new is.0 s.0 is.1 (subst (λ (e : Entry). ¬ (MayChangeFiles e.line.kind e.line.out)) is.2 stays)

-- the same where changes are kept, and where there is no entry
pub kept_stays : (old : Machine) (event : Event) (reply : Reply) (left : Option Entry) (new : Machine) → KeptStep Disk old event reply left new →
    MatchOption left (Unit {0}) (λ entry. ¬ (MayChangeFiles entry.line.kind entry.line.out)) → new.current.files ≡ old.current.files
kept_stays old event reply None new (inl s) stays = ap (λ (m : Machine). m.current.files) s.1.1
kept_stays old event reply (Some entry) new (inl s) stays = entry_stays old event reply entry new s stays
kept_stays old event reply left new (inr away) stays = ap (λ (m : Machine). m.current.files) away.3

-- ---- the log

-- what is added behind all that was seen is the last
pub added_last : (was_added : Bool) (before after : List Workspace) (files : Workspace) (Q : Type 0) →
    MatchBool was_added (after ≡ before ++ files ∷ []) Q → IsTrue was_added → IsLastVersion after files
added_last true before after files Q added is = subst (λ (v : List Workspace). IsLastVersion v files) (sym added) (last_added None before files)
added_last false before after files Q added is = absurd (false≢true is)

-- the log stays where its end may: it still ends with the current files
pub still_last : (seen : List Workspace) (old new : Workspace) → new ≡ old → IsLastVersion seen old → IsLastVersion seen new
still_last seen old new same last = subst (IsLastVersion seen) (sym same) last

pub seen_stays : (seen : List Workspace) (is_seen : Bool) (old new : Machine) → new.current.files ≡ old.current.files →
    (IsTrue is_seen → IsLastVersion seen old.current.files) → IsTrue is_seen → IsLastVersion seen new.current.files
seen_stays seen is_seen old new same last is = still_last seen old.current.files new.current.files same (last is)

-- the log still ends with the current files behind a step that adds no entry
pub seen_without : (seen : List Workspace) (is_seen : Bool) (old : Machine) (event : Event) (reply : Reply) (left : Option Entry) (new : Machine) →
    left ≡ None → KeptStep Disk old event reply left new → (IsTrue is_seen → IsLastVersion seen old.current.files) →
    IsTrue is_seen → IsLastVersion seen new.current.files
seen_without seen is_seen old event reply left new none step last is =
    let stays = subst (λ (l : Option Entry). KeptStep Disk old event reply l new) none step in
    still_last seen old.current.files new.current.files (kept_stays old event reply None new stays tt) (last is)

-- and behind one whose entry was passed
pub seen_with : (before after : List Workspace) (was_seen is_seen : Bool) (old : Machine) (event : Event) (reply : Reply) (left : Option Entry) (entry : Entry)
    (new : Machine) → left ≡ Some entry → KeptStep Disk old event reply left new → (IsTrue was_seen → IsLastVersion before old.current.files) →
    after ≡ before → (IsTrue is_seen ↔ (IsTrue was_seen × ¬ (MayChangeFiles entry.line.kind entry.line.out))) →
    IsTrue is_seen → IsLastVersion after new.current.files
seen_with before after was_seen is_seen old event reply left entry new some step last same passed is =
    let stays = subst (λ (l : Option Entry). KeptStep Disk old event reply l new) some step in
    let here = passed.0 is in
    subst (λ (v : List Workspace). IsLastVersion v new.current.files) (sym same)
    (still_last before old.current.files new.current.files (kept_stays old event reply (Some entry) new stays here.1) (last here.0))

-- a delivery keeps the files
pub delivery_stays : (seen : List Workspace) (is_seen : Bool) (old : Machine) (job : JobRecord) (built : Built) (reply : Reply) (left : Option Entry)
    (new : Machine) → JournalStep old (Deliver job built) reply left new → (IsTrue is_seen → IsLastVersion seen old.current.files) →
    IsTrue is_seen → IsLastVersion seen new.current.files
delivery_stays seen is_seen old job built reply None new step last is =
    still_last seen old.current.files new.current.files (ap (λ (m : Machine). m.current.files) step.1.1) (last is)
delivery_stays seen is_seen old job built reply (Some entry) new step last is =
    let entered = step.1.0 in
    still_last seen old.current.files new.current.files
    (files_stay old (Deliver job built) reply new entered.0 step.0 entered.1 (delivers_none entered.0)) (last is)

-- ---- Jobs

-- the Job that is handed out has the inputs of its package in the current files, which the Take leaves
brought : (old new : Machine) (answer : Result JobRecord Refusal) → Step old Take (taken answer) new →
    IfOk answer (λ job. AreInputs new.current.files job.package job.inputs)
brought old new (Ok job) step = subst (λ (c : Content). AreInputs c.current.files job.package job.inputs) (sym step.1.1) step.1.0.inputs
brought old new (Err refusal) step = tt

brought_with : (old new : Machine) (answer : Result JobRecord Refusal) (kept : Option Receipt) → ReceiptStep old Take (taken answer) kept new →
    IfOk answer (λ job. AreInputs new.current.files job.package job.inputs)
brought_with old new answer (Some receipt) s = brought old new answer s.2.0
brought_with old new answer None s = brought old new answer s.1.0

shown_with : (files : Workspace) (answer : Result JobRecord Refusal) (seen : Option (List Workspace)) →
    IfOk answer (λ job. AreInputs files job.package job.inputs) → IfSome seen (λ v. IsLastVersion v files) →
    IfOk answer (λ job. IfSome seen (λ v. BringsInputs v job))
shown_with files (Ok job) (Some v) inputs shown = (files, shown, inputs)
shown_with files (Ok job) None inputs shown = tt
shown_with files (Err refusal) seen inputs shown = tt

-- a Job that is taken brings the inputs of its package in the last of what is shown then
pub takes_shown : (is_stopped : Bool) (old : Machine) (took : Option (Result JobRecord Refusal × Option Receipt)) (new : Machine)
    (seen : Option (List Workspace)) → TakesJob is_stopped old took new → IfSome seen (λ v. IsLastVersion v new.current.files) →
    IfSome took (λ t. IfOk t.0 (λ job. IfSome seen (λ v. BringsInputs v job)))
takes_shown is_stopped old None new seen takes shown = tt
takes_shown is_stopped old (Some took) new seen takes shown =
    shown_with new.current.files took.0 seen (brought_with old new took.0 took.1 takes.1) shown

-- Where what was seen ends with the current files, a Job has the inputs of its package in these. So has what was built of it.
pub inputs_now : (v : List Workspace) (files : Workspace) (job : JobRecord) (built : Built) → IsLastVersion v files → BringsInputs v job →
    built.inputs ≡ job.inputs →
    HasCurrentInputs files job built
inputs_now v files job built last brings same =
    let here : AreInputs files job.package job.inputs =
    subst (λ (w : Workspace). AreInputs w job.package job.inputs) (same_last v brings.0 files brings.1 last) brings.2 in
    record {
      job_inputs = here;
      built_inputs = subst (λ (w : Workspace). AreInputs files job.package w) (sym same) here;
    }

-- where what was seen is the end of the log, so is the Job's
pub inputs_at_end : (seen : Option (List Workspace)) (end : List Workspace) (files : Workspace) (job : JobRecord) (built : Built) → seen ≡ Some end →
    IsLastVersion end files → IfSome seen (λ v. BringsInputs v job) → built.inputs ≡ job.inputs → HasCurrentInputs files job built
inputs_at_end seen end files job built is last brings same =
    inputs_now end files job built last (subst (λ (o : Option (List Workspace)). IfSome o (λ v. BringsInputs v job)) is brings) same

-- and so is a state's
pub state_at_end : (seen : Option (List Workspace)) (end : List Workspace) (files state : Workspace) → seen ≡ Some end → IsLastVersion end files →
    IfSome seen (λ v. IsLastVersion v state) → state ≡ files
state_at_end seen end files state is last ends =
    same_last end state files (subst (λ (o : Option (List Workspace)). IfSome o (λ v. IsLastVersion v state)) is ends) last

-- ---- what is seen of the log behind a step

ends_after : (is_kept : Bool) (old : Machine) (event : Event) (reply : Reply) (kept : Option Receipt) (new : Machine) (v : List Workspace) →
    KeptReceiptStep is_kept old event reply kept new → IsLastVersion v new.current.files → EndsBehind event reply v
ends_after is_kept old event reply (Some receipt) new v (inl s) last = inr (old, new, s.2.0, last)
ends_after is_kept old event reply None new v (inl s) last = inr (old, new, s.1.0, last)
ends_after is_kept old event reply kept new v (inr away) last = inl away.1

-- what is shown behind a step ends with the files that are current then
pub ends_behind : (is_kept : Bool) (old : Machine) (event : Event) (reply : Reply) (kept : Option Receipt) (new : Machine) (seen : Option (List Workspace)) →
    KeptReceiptStep is_kept old event reply kept new → IfSome seen (λ v. IsLastVersion v new.current.files) → IfSome seen (EndsBehind event reply)
ends_behind is_kept old event reply kept new None step last = tt
ends_behind is_kept old event reply kept new (Some v) step last = ends_after is_kept old event reply kept new v step last

-- ---- what the store holds

-- a delivery is no change
no_change : (job : JobRecord) (built : Built) (reply : Reply) → change_done reply (Deliver job built) ≡ None
no_change job built (Done number) = refl
no_change job built (Looked view) = refl
no_change job built (Logged number line) = refl
no_change job built (Taken of) = refl
no_change job built (Refused refusal) = refl
no_change job built (Back refusal of unit) = refl

pub some_all : {A : Type 0} {P : A → Type 0} (o : Option A) → ((x : A) → P x) → IfSome o P
some_all None all = tt
some_all (Some x) all = all x

-- where what a store holds was all changes of the history, it still is behind a delivery
pub delivery_keeps : (holds : Option (List ℕ)) (is_lost : Bool) (old : Machine) (job : JobRecord) (built : Built) (reply : Reply) (left : Option Entry)
    (new : Machine) → JournalStep old (Deliver job built) reply left new → KeepsHistory holds is_lost old → KeepsHistory holds is_lost new
delivery_keeps holds is_lost old job built reply left new step held = (
  held.0,
  held.1,
  unneeded_keeps held.0 held.1 holds holds is_lost is_lost old (Deliver job built) reply left new ((λ r m s. no_change job built r), refl, refl) step held.2,
)
