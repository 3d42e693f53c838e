-- What packing appends to the lists.
use Rattle.std.specs.Prelude.{ℕ, ◌≡◌, ◌≤◌, ◌<◌, List, [], ◌∷◌, ◌++◌, length, map, slice_index_or}
use Rattle.std.specs.List.{All}
use Rattle.base_edits.specs.declared.edit.Edit.{Edit}
use Rattle.base_edits.specs.declared.change.FileChange.{FileChange}
use Rattle.base_packed.specs.declared.packed.EditKind.{EditKind}
use Rattle.base_packed.specs.declared.packed.PackedEdit.{PackedEdit}
use Rattle.base_packed.specs.declared.packed.PackedFile.{PackedFile}
use Rattle.base_packed.specs.declared.packing.Packing.{Packing}
use Rattle.base_packed.specs.Packed.{ArePacked, packed_changes, unpacked_edit}

-- no edit ends before its own start
abbrev pub AreForward : List Edit → Type 0
AreForward edits = All (λ e. e.span.start ≤ e.span.end) edits

-- the kind is the last of the list
abbrev pub EndsIn : EditKind → List EditKind → Type 0
EndsIn kind kinds = (rest : List EditKind) × (kinds ≡ rest ++ kind ∷ [])

-- Kinds may be appended. Behind that the list has the kind at this number.
pub record AddsKind (kind : EditKind) (old new : List EditKind) (number : ℕ) : Type 0 where
  pub kinds : List EditKind
  pub grown : new ≡ old ++ kinds
  pub within : number < length new
  pub at : (d : EditKind) → slice_index_or new number d ≡ kind

-- Packed edits are appended that stand for these edits, and kinds that they need.
pub record PacksEdits (old_kinds new_kinds : List EditKind) (old new : List PackedEdit) (edits : List Edit) : Type 0 where
  pub kinds : List EditKind
  pub grown : new_kinds ≡ old_kinds ++ kinds
  pub packed : List PackedEdit
  pub appended : new ≡ old ++ packed
  pub kinded : All (λ e. e.kind < length new_kinds) packed
  pub same : map (unpacked_edit new_kinds) packed ≡ edits

-- Files are appended that have these changes, with their edits, and kinds that they need.
pub record AddsChanges (old new : Packing) (changes : List FileChange) : Type 0 where
  pub kinds : List EditKind
  pub grown : new.kinds.items ≡ old.kinds.items ++ kinds
  pub edits : List PackedEdit
  pub appended : new.edits.items ≡ old.edits.items ++ edits
  pub files : List PackedFile
  pub listed : new.files.items ≡ old.files.items ++ files
  pub packed : ArePacked new.kinds.items files edits
  pub same : packed_changes new.kinds.items files edits ≡ changes
