-- The change of a workspace by edits that were planned in a part of it.
use Rattle.std.specs.Prelude.{ℕ, ◌≡◌, ⊤, List, Result, Ok, Err}
use Rattle.base_edits.specs.EditSet.{FileChanges, edited}
use Rattle.base_files.specs.Workspace.{Workspace}
use Rattle.base_files.specs.declared.refusal.Refusal.{Refusal}
use Rattle.base_files.specs.declared.refusal.Refusal.TheVariants.{Memory, TooLarge}
use Rattle.build_carry.specs.Changes.{AreChanged}
use Rattle.workspace_graph.specs.SameGoFiles.{DiffersOnlyAt}
use Rattle.workspace_snapshot.specs.Fits.{FitsLimits}
use Rattle.workspace_snapshot.specs.declared.change.Change.{Change}
use Rattle.workspace_snapshot.specs.declared.change.ChangeKind.{ChangeKind}
use Rattle.workspace_snapshot.specs.declared.snapshot.Snapshot.{Snapshot}
use Rattle.refactor_plan.specs.Proposals.{proposed_change}

-- The whole workspace has other Go files than the part only at these paths, and they are those of the packages in these folders.
pub record DiffersByLeftOut (part whole : Workspace) (folders paths : List (List ℕ)) : Type 0 where
  pub rest : DiffersOnlyAt paths part whole
  pub packages : AreChanged part whole folders

-- The change of the snapshot that has this kind and these edits, or `TooLarge` where its files exceed a limit.
abbrev pub IsWholeChange : Snapshot → (kind : ChangeKind) → (edits : FileChanges) → Result Change Refusal → Type 0
IsWholeChange snapshot kind edits (Ok change) =
    (change ≡ proposed_change snapshot kind edits) × FitsLimits snapshot.limits (edited edits snapshot.files)
IsWholeChange snapshot kind edits (Err TooLarge) = ¬ (FitsLimits snapshot.limits (edited edits snapshot.files))
IsWholeChange snapshot kind edits (Err Memory) = ⊤
IsWholeChange snapshot kind edits (Err refusal) = ⊥

-- So it is where no affected package has a fault; else the refusal that names the first one.
abbrev pub AdmitsWhole : Snapshot → (faults : Result (Unit {0}) Refusal) → (kind : ChangeKind) → (edits : FileChanges) → Result Change Refusal → Type 0
AdmitsWhole snapshot (Ok done) kind edits result = IsWholeChange snapshot kind edits result
AdmitsWhole snapshot (Err fault) kind edits result = result ≡ Err fault
