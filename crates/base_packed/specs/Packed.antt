-- Changes of files, packed into lists: the files, the edits of all files, and the kinds of edits.
use Rattle.std.specs.Prelude.{ℕ, ◌≡◌, ◌+◌, ◌<◌, List, [], ◌∷◌, length, map, take, drop, slice_index_or}
use Rattle.std.specs.List.{All}
use Rattle.base_edits.specs.declared.edit.Edit.{Edit}
use Rattle.base_edits.specs.declared.change.FileChange.{FileChange}
use Rattle.base_packed.specs.declared.packed.EditKind.{EditKind}
use Rattle.base_packed.specs.declared.packed.PackedEdit.{PackedEdit}
use Rattle.base_packed.specs.declared.packed.PackedFile.{PackedFile}

-- the edit of a kind that begins at an offset
abbrev pub edit_of_kind : (start : ℕ) → EditKind → Edit
edit_of_kind start kind = record { span = record { start = start; end = start + kind.size }; text = kind.text }

-- The kind that does nothing. It stands in where a number has no kind, which no number of packed changes is.
abbrev pub idle_kind : EditKind
idle_kind = record { size = 0; text = [] }

-- the edit that a packed one stands for
abbrev pub unpacked_edit : List EditKind → PackedEdit → Edit
unpacked_edit kinds e = edit_of_kind e.start (slice_index_or kinds e.kind idle_kind)

-- The changes of the files. Each file takes its edits from the front of the list.
abbrev pub packed_changes : List EditKind → List PackedFile → List PackedEdit → List FileChange
packed_changes kinds [] edits = []
packed_changes kinds (file ∷ files) edits =
    record { path = file.path; edits = map (unpacked_edit kinds) (take file.count edits); fate = file.fate }
    ∷ packed_changes kinds files (drop file.count edits)

-- how many edits the files have together
abbrev pub edits_counted : List PackedFile → ℕ
edits_counted [] = 0
edits_counted (file ∷ files) = file.count + edits_counted files

-- each edit has one of the kinds
abbrev pub HaveKinds : List EditKind → List PackedEdit → Type 0
HaveKinds kinds edits = All (λ e. e.kind < length kinds) edits

-- The files have all the edits, and each edit has a kind.
pub record ArePacked (kinds : List EditKind) (files : List PackedFile) (edits : List PackedEdit) : Type 0 where
  pub counted : edits_counted files ≡ length edits
  pub kinded : HaveKinds kinds edits
