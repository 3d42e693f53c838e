-- What a desk at a seat sees behind a look, a commit and a Take.
use Rattle.std.proofs.Common.{◌≡◌, ℕ, List, Option, Some, None, Result, Ok, Err, IfOk, IfSome, inl, inr, sym, ap, subst, ◌∙◌}
use Rattle.std.proofs.lemmas.Bool.{false≢true}
use Rattle.base_files.specs.Workspace.{Workspace}
use Rattle.base_files.specs.declared.refusal.Refusal.{Refusal}
use Rattle.build_unit.specs.Inputs.{AreInputs}
use Rattle.build_unit.specs.declared.job.JobRecord.{JobRecord}
use Rattle.workspace_snapshot.specs.declared.change.Change.{Change}
use Rattle.history_machine.specs.declared.event.Event.TheVariants.{Look, Commit, Take}
use Rattle.history_machine.specs.declared.view.View.{View}
use Rattle.history_machine.specs.Machine.{Content}
use Rattle.history_machine.specs.Step.{done, looked, taken}
use Rattle.server_versions.specs.Growing.{IsLastVersion}
use Rattle.server_shared.specs.SeenFiles.{BringsInputs, EndsBehind}

-- a look shows the files with which what is seen ends
look_ends : (view : View) (v : List Workspace) → EndsBehind Look (looked (Ok view)) v → IsLastVersion v view.snapshot.files
look_ends view v (inl away) = absurd (false≢true away.1)
look_ends view v (inr s) =
    let step = s.2 in
    subst (IsLastVersion v) (sym (ap (λ (x : View). x.snapshot.files) step.1.0.0 ∙ ap (λ (c : Content). c.current.files) (sym step.1.1))) s.3

pub looks_seen : (answer : Result View Refusal) (seen : Option (List Workspace)) → IfSome seen (EndsBehind Look (looked answer)) →
    IfOk answer (λ view. IfSome seen (λ v. IsLastVersion v view.snapshot.files))
looks_seen (Ok view) (Some v) ends = look_ends view v ends
looks_seen (Ok view) None ends = tt
looks_seen (Err refusal) seen ends = tt

-- the files of a change that is done are those with which what is seen ends
commit_ends : (basis : ℕ) (change : Change) (number : ℕ) (v : List Workspace) → EndsBehind (Commit basis change) (done (Ok number)) v →
    IsLastVersion v change.files
commit_ends basis change number v (inl away) = absurd (cc (away.0))
commit_ends basis change number v (inr s) = subst (IsLastVersion v) (ap (λ (c : Content). c.current.files) s.2.1.2.2) s.3

pub commits_seen : (basis : ℕ) (change : Change) (answer : Result ℕ Refusal) (seen : Option (List Workspace)) →
    IfSome seen (EndsBehind (Commit basis change) (done answer)) → IfOk answer (λ number. IfSome seen (λ v. IsLastVersion v change.files))
commits_seen basis change (Ok number) (Some v) ends = commit_ends basis change number v ends
commits_seen basis change (Ok number) None ends = tt
commits_seen basis change (Err refusal) seen ends = tt

-- the Job that is taken brings its inputs
take_ends : (job : JobRecord) (v : List Workspace) → EndsBehind Take (taken (Ok job)) v → BringsInputs v job
take_ends job v (inl away) = absurd (false≢true away.1)
take_ends job v (inr s) =
    let step = s.2 in
    (s.1.current.files, s.3, subst (λ (c : Content). AreInputs c.current.files job.package job.inputs) (sym step.1.1) step.1.0.inputs)

pub takes_seen : (answer : Result JobRecord Refusal) (seen : Option (List Workspace)) → IfSome seen (EndsBehind Take (taken answer)) →
    IfOk answer (λ job. IfSome seen (λ v. BringsInputs v job))
takes_seen (Ok job) (Some v) ends = take_ends job v ends
takes_seen (Ok job) None ends = tt
takes_seen (Err refusal) seen ends = tt
