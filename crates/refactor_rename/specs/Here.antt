-- The places that lie in one file, and the edits that replace the identifiers there.
use Rattle.std.specs.Prelude.{ℕ, ◌≡◌, ◌<◌, ◌↔◌, Bool, List, Contains, length, get_or}
use Rattle.std.specs.Ordering.{is_lt}
use Rattle.base_files.specs.Workspace.{path_cmp}
use Rattle.base_files.specs.declared.place.Place.{Place}
use Rattle.go_scanner.specs.declared.piece.Piece.{Piece}
use Rattle.go_scanner.specs.declared.piece.Class.TheVariants.{Name}
use Rattle.go_scanner.specs.CutText.{tokens_in}
use Rattle.go_ast.specs.SourceFile.{SourceFile}
use Rattle.base_edits.specs.declared.edit.Edit.{Edit}
use Rattle.refactor_rename.specs.FileEdits.{EndBy, NoneTwice}

-- whether the place lies in a file before the path
abbrev pub before : (path : List ℕ) → Place → Bool
before path p = is_lt (path_cmp p.path path)

-- `here` has the places that lie in the file at this path, and no others.
abbrev pub ArePlacesIn : List Place → (path : List ℕ) → (here : List Place) → Type 0
ArePlacesIn places path here = (p : Place) → Contains here p ↔ (Contains places p × (p.path ≡ path))

-- Each place has a greater offset than those before it.
abbrev pub OffsetsRise : List Place → Type 0
OffsetsRise here = (i j : ℕ) (p : Place) → i < j → j < length here → (get_or here i p).offset < (get_or here j p).offset

-- One of the tokens is an identifier that begins at this offset, and the edit replaces it by the name.
pub record ReplacesAt (tokens : List Piece) (name : List ℕ) (offset : ℕ) (e : Edit) : Type 0 where
  pub token : Piece
  pub is_token : Contains tokens token
  pub is_name : token.class ≡ Name
  pub begins : token.span.start ≡ offset
  pub is_edit : e ≡ record { span = token.span; text = name }

-- These are the edits that replace the identifiers at places of one file, in order and each once.
pub record AreReplacements (f : SourceFile) (name : List ℕ) (here : List Place) (edits : List Edit) : Type 0 where
  pub end_by : EndBy edits (length f.cut.text)
  pub each : (e : Edit) → Contains edits e ↔ ((p : Place) × (Contains here p × ReplacesAt (tokens_in f.cut) name p.offset e))
  pub once : NoneTwice edits
