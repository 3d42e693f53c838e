-- The laws of edits, as propositions.
use Rattle.std.specs.Prelude.{◌≡◌, ℕ, ◌+◌, ◌-◌, ◌<◌, ◌≤◌, List, length, Some, ◌↔◌, ◌⊎◌}
use Rattle.std.specs.List.{slice_range, All, Contains}
use Rattle.std.specs.FinMap as files
use Rattle.base_files.specs.Workspace.{Workspace}
use Rattle.base_edits.specs.Edits.{AreInOrder, LieWithin, edited_text}
use Rattle.base_edits.specs.EditSet.{FileChanges, file_after, edited}
use Rattle.base_edits.specs.Fits.{Fits}
use Rattle.base_edits.specs.Inverse.{reversed}
use Rattle.base_edits.specs.Moved.{moved_offset}
use Rattle.base_edits.specs.declared.edit.Edit.{Edit}

-- The offset lies strictly inside no span.
abbrev pub IsOutside : List Edit → ℕ → Type 0
IsOutside edits offset = All (λ e. (offset ≤ e.span.start) ⊎ (e.span.end ≤ offset)) edits

-- No span overlaps the bytes from `start` to `end`.
abbrev pub AreUntouched : List Edit → ℕ → ℕ → Type 0
AreUntouched edits start end = All (λ e. (end ≤ e.span.start) ⊎ (e.span.end ≤ start)) edits

-- Two offsets keep their order under the edits, where the lower one lies strictly inside no span.
abbrev pub KeepsOrder : Type 0
KeepsOrder = (edits : List Edit) (one other : ℕ) → AreInOrder 0 edits → IsOutside edits one → one ≤ other → moved_offset edits one ≤ moved_offset edits other

-- Bytes that no span overlaps are found in the new text at the moved offset of the first of them.
abbrev pub KeepsOtherBytes : Type 0
KeepsOtherBytes = (edits : List Edit) (text : List ℕ) (start end : ℕ) → AreInOrder 0 edits → LieWithin (length text) edits → start < end →
    end ≤ length text → AreUntouched edits start end
    → slice_range (edited_text edits text) (moved_offset edits start) (moved_offset edits start + (end - start)) ≡ slice_range text start end

-- The new bytes of a span that is not empty are found in the new text at the moved offset of the span's start.
abbrev pub PutsNewBytes : Type 0
PutsNewBytes = (edits : List Edit) (text : List ℕ) (e : Edit) → AreInOrder 0 edits → LieWithin (length text) edits → Contains edits e →
    e.span.start < e.span.end
    → slice_range (edited_text edits text) (moved_offset edits e.span.start) (moved_offset edits e.span.start + length e.text) ≡ e.text

-- The end of the old text moves to the end of the new text.
abbrev pub MovesTheEnd : Type 0
MovesTheEnd = (edits : List Edit) (text : List ℕ) → AreInOrder 0 edits → LieWithin (length text) edits →
    length (edited_text edits text) ≡ moved_offset edits (length text)

-- The reversed edits make the old text of the new one.
abbrev pub ReversedRestore : Type 0
ReversedRestore = (edits : List Edit) (text : List ℕ) → AreInOrder 0 edits → LieWithin (length text) edits →
    edited_text (reversed edits text) (edited_text edits text) ≡ text

-- After an edit set that fits, a file exists exactly if it is added, or is an old file after its change.
abbrev pub HasEachFile : Type 0
HasEachFile = (s : FileChanges) (w : Workspace) (path text : List ℕ) → Fits s w
    → (files.get (edited s w) path ≡ Some text) ↔ (Contains s.added (path, text) ⊎
    ((old before : List ℕ) × (files.get w old ≡ Some before) × (file_after s (old, before) ≡ Some (path, text))))
