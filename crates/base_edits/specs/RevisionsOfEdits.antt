-- The `Revision` that an edit set makes of a workspace.
use Rattle.std.specs.Prelude.{ℕ, ◌==◌, nat_lt, ◌&&◌, Bool, List, Option, Some, None, find}
use Rattle.base_files.specs.Workspace.{Workspace}
use Rattle.base_files.specs.declared.place.Place.{Place}
use Rattle.base_edits.specs.EditSet.{FileChanges, change_of, edited}
use Rattle.base_edits.specs.Moved.{moved, edits_by}
use Rattle.base_edits.specs.declared.edit.Edit.{Edit}
use Rattle.base_edits.specs.Revisions.{Revision}

-- Whether an edit begins at the offset and replaces at least one byte.
abbrev pub replaces_at : ℕ → Edit → Bool
replaces_at offset e = e.span.start == offset && nat_lt e.span.start e.span.end

-- The new bytes of an edit, or the name where there is no edit.
abbrev pub text_or : List ℕ → Option Edit → List ℕ
text_or name None = name
text_or name (Some e) = e.text

-- The name after an edit set of the identifier at a place, which has the given name before. Without an edit there, the name stays.
abbrev pub new_name_at : FileChanges → Place → List ℕ → List ℕ
new_name_at s place name = text_or name (find (replaces_at place.offset) (edits_by (change_of s place.path)))

-- The `Revision` that an edit set makes of the workspace `w`.
abbrev pub revision_of : Workspace → FileChanges → Revision
revision_of w s = record { after = edited s w; moved = moved s; called = new_name_at s }
