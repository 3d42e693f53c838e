-- Where edits move an offset of a text or a place of a workspace.
use Rattle.std.specs.Prelude.{ℕ, ◌+◌, ◌-◌, List, length, filter, sum_by, nat_le, unwrap_or, Option, Some, None, []}
use Rattle.base_files.specs.declared.place.Place.{Place}
use Rattle.base_edits.specs.EditSet.{FileChanges, change_of}
use Rattle.base_edits.specs.Fits.{path_after}
use Rattle.base_edits.specs.declared.edit.Edit.{Edit}
use Rattle.base_edits.specs.declared.change.FileChange.{FileChange}

-- The edits that end at or before an offset.
abbrev pub edits_before : List Edit → ℕ → List Edit
edits_before edits offset = filter (λ e. nat_le e.span.end offset) edits

-- The number of new bytes of the edits.
abbrev pub added_by : List Edit → ℕ
added_by edits = sum_by (λ e. length e.text) edits

-- The number of old bytes that the edits replace.
abbrev pub removed_by : List Edit → ℕ
removed_by edits = sum_by (λ e. e.span.end - e.span.start) edits

-- The new offset of an old one: it moves by the bytes that the edits at or before it add and remove.
abbrev pub moved_offset : List Edit → ℕ → ℕ
moved_offset edits offset = (offset + added_by (edits_before edits offset)) - removed_by (edits_before edits offset)

-- The edits of a change; none where there is no change.
abbrev pub edits_by : Option FileChange → List Edit
edits_by None = []
edits_by (Some c) = c.edits

-- The place after an edit set of a place before it: in the new path of its file, at the moved offset. A dropped file keeps its path.
abbrev pub moved : FileChanges → Place → Place
moved s place = record {
  path = unwrap_or (path_after s place.path) place.path;
  offset = moved_offset (edits_by (change_of s place.path)) place.offset;
}
