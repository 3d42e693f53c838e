-- The table of the ends of edits, from which `Moves` computes moved offsets.
use Rattle.std.specs.Prelude.{ℕ, ◌≡◌, ◌+◌, ◌<◌, ◌≤◌, List, length, Some, slice_get}
use Rattle.std.specs.Global.{Vec}
use Rattle.base_edits.specs.EditSet.{FileChanges, change_of}
use Rattle.base_edits.specs.PassedEdits.{ArePast, PassedEdits}
use Rattle.base_edits.specs.declared.edit.Edit.{Edit}
use Rattle.base_edits.specs.declared.change.FileChange.{FileChange}
use Rattle.base_edits.specs.declared.moves.End.{End}

-- The state behind the first `n` edits, of which the last ends at `end`.
abbrev pub passed_at : ℕ → End → PassedEdits
passed_at n end = record { edits = n; old = end.old; new = end.new }

-- The first `n` edits end at `end.old` in the old text and at `end.new` in the new text.
abbrev pub IsEnd : List Edit → ℕ → End → Type 0
IsEnd edits n end = ArePast edits end.old (passed_at n end)

-- The list begins with offset 0 of both texts, and goes on with the ends of the first edits. It has `count` entries.
pub record AreEndsBelow (edits : List Edit) (count : ℕ) (ends : List End) : Type 0 where
  pub size : length ends ≡ count
  pub first : (end : End) → slice_get ends 0 ≡ Some end → end.old ≡ 0
  pub each : (n : ℕ) (end : End) → slice_get ends n ≡ Some end → IsEnd edits n end
  pub at_end : (n : ℕ) (e : Edit) (end : End) → slice_get edits n ≡ Some e → slice_get ends (n + 1) ≡ Some end → end.old ≡ e.span.end

-- The list has offset 0 and then the end of each edit of a file.
abbrev pub AreEnds : List Edit → List End → Type 0
AreEnds edits ends = AreEndsBelow edits (length edits + 1) ends

-- The table has a list of ends for each of the first `count` changed files, in their order.
pub record AreEndsOf (changed : List FileChange) (count : ℕ) (ends : List (Vec End)) : Type 0 where
  pub size : length ends ≡ count
  pub each : (n : ℕ) (c : FileChange) (here : Vec End) → slice_get changed n ≡ Some c → slice_get ends n ≡ Some here → AreEnds c.edits here.items

-- `n` is the number of the last end at or before an old offset.
pub record IsLastEnd (ends : List End) (offset n : ℕ) : Type 0 where
  pub within : n < length ends
  pub reached : (end : End) → slice_get ends n ≡ Some end → end.old ≤ offset
  pub behind : (end : End) → slice_get ends (n + 1) ≡ Some end → offset < end.old

-- `n` is the number of the change of the file at the path.
pub record IsChangeOf (s : FileChanges) (path : List ℕ) (n : ℕ) : Type 0 where
  pub within : n < length s.changed
  pub is : slice_get s.changed n ≡ change_of s path
