-- How the moved offset is computed edit by edit.
use Rattle.std.specs.Prelude.{◌≡◌, ℕ, ◌+◌, ◌-◌, ◌≤◌, List, [], ◌∷◌, length, drop, nat_le, if◌then◌else◌}
use Rattle.base_edits.specs.Edits.{AreInOrder}
use Rattle.base_edits.specs.Moved.{moved_offset}
use Rattle.base_edits.specs.declared.edit.Edit.{Edit}

-- The first edits, up to some offset: their number, and where the last of them ends in the old text and in the new text.
pub record PassedEdits : Type 0 where
  pub edits : ℕ
  pub old : ℕ
  pub new : ℕ

-- The new offset of an old one that lies at or behind `old`, by the edits that begin there. Offset `old` of the old text is `new` in the
-- new text.
abbrev pub moved_from : ℕ → ℕ → List Edit → ℕ → ℕ
moved_from old new [] offset = new + (offset - old)
moved_from old new (e ∷ edits) offset = if nat_le e.span.end offset then moved_from e.span.end (new + ((e.span.start - old) + length e.text)) edits offset
    else new + (offset - old)

-- The edits after the first ones begin at or behind their end. From `last` on, they alone move offsets as all edits do.
pub record ArePast (edits : List Edit) (last : ℕ) (past : PassedEdits) : Type 0 where
  pub within : past.edits ≤ length edits
  pub behind : past.old ≤ last
  pub order : AreInOrder past.old (drop past.edits edits)
  pub moves : (offset : ℕ) → last ≤ offset → moved_from past.old past.new (drop past.edits edits) offset ≡ moved_offset edits offset
