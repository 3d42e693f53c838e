-- The law of planned renames: they keep every byte outside their edits.
use Rattle.std.specs.Prelude.{ℕ, ◌≡◌, ◌+◌, ◌-◌, ◌<◌, ◌≤◌, List, length, Some, Ok}
use Rattle.std.specs.List.{slice_range}
use Rattle.std.specs.FinMap as files
use Rattle.base_edits.specs.EditSet.{change_of}
use Rattle.base_edits.specs.Laws.{AreUntouched}
use Rattle.base_edits.specs.Moved.{moved_offset, edits_by}
use Rattle.base_edits.specs.declared.edit.Edit.{Edit}
use Rattle.workspace_snapshot.specs.declared.snapshot.Snapshot.{Snapshot}
use Rattle.workspace_snapshot.specs.declared.change.Change.{Change}
use Rattle.refactor_plan.specs.Plan.{PlansRename}

-- The edits of a change in the file at this path.
abbrev pub edits_in : Change → List ℕ → List Edit
edits_in change file = edits_by (change_of change.edits file)

-- The change leaves a file at the path `file`. Its new text has the bytes from `start` to `end` of `text`, from the offset to which `start`
-- is moved.
pub record KeepsBytes (change : Change) (file text : List ℕ) (start end : ℕ) : Type 0 where
  pub new : List ℕ
  pub there : files.get change.files file ≡ Some new
  pub kept : slice_range new (moved_offset (edits_in change file) start) (moved_offset (edits_in change file) start + (end - start)) ≡ slice_range text
      start end

-- Where a rename is planned, each file stays at its path. Each byte range of it that no edit touches keeps its bytes.
abbrev pub RenamesKeepOtherBytes : Type 0
RenamesKeepOtherBytes = (snapshot : Snapshot) (path : List ℕ) (offset : ℕ) (name : List ℕ) (change : Change) →
    PlansRename snapshot path offset name (Ok change) →
    (file text : List ℕ) → files.get snapshot.files file ≡ Some text → (start end : ℕ) → start < end → end ≤ length text →
    AreUntouched (edits_in change file) start end → KeepsBytes change file text start end
