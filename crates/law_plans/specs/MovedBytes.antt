-- The law of planned moves: they keep every byte outside their edits.
use Rattle.std.specs.Prelude.{ℕ, ◌≡◌, ◌⊎◌, ◌+◌, ◌-◌, ◌<◌, ◌≤◌, List, length, Some, Ok}
use Rattle.std.specs.List.{slice_range}
use Rattle.std.specs.FinMap as files
use Rattle.base_edits.specs.Laws.{AreUntouched}
use Rattle.base_edits.specs.Moved.{moved_offset}
use Rattle.workspace_snapshot.specs.declared.snapshot.Snapshot.{Snapshot}
use Rattle.workspace_snapshot.specs.declared.change.Change.{Change}
use Rattle.refactor_move.specs.Paths.{IsUnder, HasMoved}
use Rattle.refactor_plan.specs.Laws.{edits_in}
use Rattle.refactor_plan.specs.MovePlan.{PlansMove}

-- The path of a file after the move of the folder `from` to `to`: a file in the folder moves with it, and each other file stays.
abbrev pub IsPathAfterMove : (from to file after : List ℕ) → Type 0
IsPathAfterMove from to file after = HasMoved from to file after ⊎ ((IsUnder from file → ⊥) × (after ≡ file))

-- The change leaves the file at its path after the move. Its new text has the bytes from `start` to `end` of `text`, from the offset to which
-- `start` is moved.
pub record KeepsBytesMoved (from to : List ℕ) (change : Change) (file text : List ℕ) (start end : ℕ) : Type 0 where
  pub after : List ℕ
  pub is_after : IsPathAfterMove from to file after
  pub new : List ℕ
  pub there : files.get change.files after ≡ Some new
  pub kept : slice_range new (moved_offset (edits_in change file) start) (moved_offset (edits_in change file) start + (end - start)) ≡ slice_range text
      start end

-- Where a move is planned, each file has its path after the move. Each byte range of it that no edit touches keeps its bytes.
abbrev pub MovesKeepOtherBytes : Type 0
MovesKeepOtherBytes = (snapshot : Snapshot) (from to : List ℕ) (change : Change) → PlansMove snapshot from to (Ok change) →
    (file text : List ℕ) → files.get snapshot.files file ≡ Some text → (start end : ℕ) → start < end → end ≤ length text →
    AreUntouched (edits_in change file) start end → KeepsBytesMoved from to change file text start end
