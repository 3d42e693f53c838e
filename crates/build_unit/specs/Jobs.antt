-- Jobs, and the Jobs that are out: handed out and not yet taken back.
use Rattle.std.specs.Prelude.{◌≡◌, ℕ, ◌+◌, List, [], ◌∷◌, ◌++◌, Some, slice_get, remove, Result, Ok, Err}
use Rattle.std.specs.List.{Contains}
use Rattle.std.specs.declared.alloc.AllocError.{AllocError}
use Rattle.base_files.specs.Workspace.{Workspace}
use Rattle.build_unit.specs.declared.job.JobRecord.{JobRecord}
use Rattle.build_unit.specs.declared.out.JobLabel.{JobLabel}

-- The ticket of the next Job, and the labels of the Jobs that are out, in the order of their tickets.
pub record JobsOut : Type 0 where
  pub ticket : ℕ
  pub jobs : List JobLabel

-- The label of a Job: its ticket, the number of its state, its visit and its package.
abbrev pub label_of : JobRecord → JobLabel
label_of job = record { ticket = job.ticket; number = job.number; visit = job.visit; «package» = job.package }

-- The Job is out: its label is among those of the Jobs that are out.
abbrev pub IsOut : JobsOut → JobRecord → Type 0
IsOut out job = Contains out.jobs (label_of job)

-- A Job of the package at this path is out that was taken in this visit.
abbrev pub IsTakenInVisit : JobsOut → ℕ → List ℕ → Type 0
IsTakenInVisit out visit path = (label : JobLabel) × Contains out.jobs label × (label.visit ≡ visit) × (label.package ≡ path)

-- The Jobs that are out after a Job with this label was handed out. The next ticket is one more.
abbrev pub with_job : JobsOut → JobLabel → JobsOut
with_job out label = record { ticket = out.ticket + 1; jobs = out.jobs ++ label ∷ [] }

-- `new` are the Jobs that are out after one with this label came back. Only one Job leaves, and the next ticket stays.
pub record RemovesJob (old : JobsOut) (label : JobLabel) (new : JobsOut) : Type 0 where
  pub place : ℕ
  pub at : slice_get old.jobs place ≡ Some label
  pub others : new ≡ record { ticket = old.ticket; jobs = remove old.jobs place }

-- The Job that is handed out next, for the package at this path, with these inputs.
abbrev pub job_of : JobsOut → (number visit : ℕ) → List ℕ → Workspace → JobRecord
job_of out number visit path inputs = record { ticket = out.ticket; number = number; visit = visit; «package» = path; inputs = inputs }

-- A Job is handed out with the next ticket. Where memory is wanting, none is, and the Jobs that are out stay.
abbrev pub HandsOut : JobsOut → (number visit : ℕ) → List ℕ → Workspace → Result JobRecord AllocError → JobsOut → Type 0
HandsOut old number visit path inputs (Ok job) new = (job ≡ job_of old number visit path inputs) × (new ≡ with_job old (label_of job))
HandsOut old number visit path inputs (Err refused) new = new ≡ old

-- A Job that is out is taken back, and its record is the answer. A Job that is not out is returned, and the Jobs that are out stay.
abbrev pub TakesBack : JobsOut → JobRecord → Result JobRecord JobRecord → JobsOut → Type 0
TakesBack old job (Ok back) new = (back ≡ job) × RemovesJob old (label_of job) new
TakesBack old job (Err back) new = (back ≡ job) × (IsOut old job → ⊥) × (new ≡ old)
