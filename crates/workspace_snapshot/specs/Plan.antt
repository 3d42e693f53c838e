-- The results of `plan_put` and `plan_del`.
use Rattle.std.specs.Prelude.{◌≡◌, ◌≢◌, ℕ, List, [], ◌∷◌, ⊤, Option, Some, None, Result, Ok, Err}
use Rattle.std.specs.FinMap as files
use Rattle.base_files.specs.Path.{IsPath}
use Rattle.base_files.specs.declared.refusal.Refusal.{Refusal}
use Rattle.base_files.specs.declared.refusal.Refusal.TheVariants.{Memory, BadPath, NoFile, TooLarge, Same}
use Rattle.base_files.specs.Workspace.{Workspace}
use Rattle.base_edits.specs.EditSet.{FileChanges}
use Rattle.base_edits.specs.Inverse.{dropped}
use Rattle.base_edits.specs.declared.change.FileChange.{FileChange}
use Rattle.workspace_snapshot.specs.Fits.{FitsLimits}
use Rattle.workspace_snapshot.specs.declared.snapshot.Snapshot.{Snapshot}
use Rattle.workspace_snapshot.specs.declared.change.Change.{Change}
use Rattle.workspace_snapshot.specs.declared.change.ChangeKind.TheVariants.{Put, Del}

-- The change that drops the file at the path, if the path has a text; otherwise no change.
abbrev pub drop_changes : Option (List ℕ) → List ℕ → List FileChange
drop_changes None path = []
drop_changes (Some old) path = dropped (path, []) ∷ []

-- The edit set that sets the text of the file at a path: it drops the old file, if there is one, and adds the new one.
abbrev pub put_changes : Workspace → List ℕ → List ℕ → FileChanges
put_changes w path text = record { changed = drop_changes (files.get w path) path; added = (path, text) ∷ [] }

-- The edit set that drops the file at a path.
abbrev pub del_changes : List ℕ → FileChanges
del_changes path = record { changed = dropped (path, []) ∷ []; added = [] }

-- Planning to set the text of the file at `path` gives this result. `BadPath`: no path of two segments; `Same`: the file has this text;
-- `TooLarge`: the files after the change would exceed a limit.
abbrev pub PlansPut : Snapshot → List ℕ → List ℕ → Result Change Refusal → Type 0
PlansPut snapshot path text (Ok change) =
    let base = snapshot.files in
    let new = files.insert base path text in
    IsPath 2 path × (files.get base path ≢ Some text) × FitsLimits snapshot.limits new ×
    (change ≡ record { base = base; kind = Put; edits = put_changes base path text; files = new })
PlansPut snapshot path text (Err BadPath) = ¬ (IsPath 2 path)
PlansPut snapshot path text (Err Same) = IsPath 2 path × (files.get snapshot.files path ≡ Some text)
PlansPut snapshot path text (Err TooLarge) = IsPath 2 path × (files.get snapshot.files path ≢ Some text) ×
    ¬ (FitsLimits snapshot.limits (files.insert snapshot.files path text))
PlansPut snapshot path text (Err Memory) = ⊤
PlansPut snapshot path text (Err refusal) = ⊥

-- Planning to delete the file at `path` gives this result. `BadPath`: no path of two segments; `NoFile`: there is no file at the path.
abbrev pub PlansDel : Snapshot → List ℕ → Result Change Refusal → Type 0
PlansDel snapshot path (Ok change) =
    let base = snapshot.files in
    IsPath 2 path × (files.get base path ≢ None) × (change ≡ record { base = base; kind = Del; edits = del_changes path; files = files.remove base path })
PlansDel snapshot path (Err BadPath) = ¬ (IsPath 2 path)
PlansDel snapshot path (Err NoFile) = IsPath 2 path × (files.get snapshot.files path ≡ None)
PlansDel snapshot path (Err Memory) = ⊤
PlansDel snapshot path (Err refusal) = ⊥
