-- The edits of a rename in one file: of identifiers, and of the string literal of an import without a name.
use Rattle.std.specs.Prelude.{ℕ, ◌≡◌, ◌↔◌, ◌⊎◌, List, [], ◌∷◌, ◌++◌, Option, Some, None, Contains, length, slice_get}
use Rattle.go_scanner.specs.declared.piece.Piece.{Piece}
use Rattle.go_scanner.specs.declared.piece.Class.TheVariants.{Name}
use Rattle.go_scanner.specs.CutText.{tokens_in}
use Rattle.go_ast.specs.SourceFile.{SourceFile}
use Rattle.base_edits.specs.Edits.{AreInOrder, LieWithin}
use Rattle.base_edits.specs.declared.edit.Edit.{Edit}
use Rattle.refactor_rename.specs.declared.renamed.Literal.{Literal}
use Rattle.refactor_rename.specs.declared.renamed.Renamed.{Renamed}
use Rattle.refactor_rename.specs.Replacements.{IsNameBefore}

-- The literal is the token `token` of the file at this path.
abbrev pub IsLiteralAt : Option Literal → (path : List ℕ) → (token : ℕ) → Type 0
IsLiteralAt None path token = ⊥
IsLiteralAt (Some l) path token = (l.path ≡ path) × (l.token ≡ token)

-- The token `i` is an identifier that begins at one of the places, and the edit replaces it by the name.
pub record RenamesToken (f : SourceFile) (r : Renamed) (i : ℕ) (e : Edit) : Type 0 where
  pub token : Piece
  pub at : slice_get (tokens_in f.cut) i ≡ Some token
  pub is_name : token.class ≡ Name
  pub among : Contains r.places (record { path = f.path; offset = token.span.start })
  pub is_edit : e ≡ record { span = token.span; text = r.name }

-- The token `i` is the literal of the import, and the edit inserts the name before it.
--
--   import "shapes"      // renaming shapes to s
--   import s "shapes"
pub record InsertsName (f : SourceFile) (r : Renamed) (i : ℕ) (e : Edit) : Type 0 where
  pub token : Piece
  pub at : slice_get (tokens_in f.cut) i ≡ Some token
  pub is_literal : IsLiteralAt r.literal f.path i
  pub span : e.span ≡ record { start = token.span.start; end = token.span.start }
  pub text : IsNameBefore f i r.name e.text

-- The edit `e` of a rename is that of the token `i`.
abbrev pub IsEditAt : SourceFile → Renamed → ℕ → Edit → Type 0
IsEditAt f r i e = InsertsName f r i e ⊎ RenamesToken f r i e

-- The edit of which `IsNew` holds is appended, if there is one.
pub data AppendsEdit (IsNew : Edit → Type 0) (old : List Edit) : List Edit → Type 0 where
  stays : ((e : Edit) → IsNew e → ⊥) → AppendsEdit IsNew old old
  grows : (e : Edit) → IsNew e → AppendsEdit IsNew old (old ++ e ∷ [])

-- The edits of the token `i` are appended: the insertion, and then the replacement.
pub record AppendsEditsAt (f : SourceFile) (r : Renamed) (i : ℕ) (old new : List Edit) : Type 0 where
  pub between : List Edit
  pub inserts : AppendsEdit (InsertsName f r i) old between
  pub replaces : AppendsEdit (RenamesToken f r i) between new

-- No edit stands twice.
abbrev pub NoneTwice : List Edit → Type 0
NoneTwice [] = Unit {0}
NoneTwice (e ∷ edits) = ¬ (Contains edits e) × NoneTwice edits

-- The edits are in order, and each ends at this offset or before it.
pub record EndBy (edits : List Edit) (offset : ℕ) : Type 0 where
  pub in_order : AreInOrder 0 edits
  pub ends : LieWithin offset edits

-- These are the edits of all tokens of a file, in order and each once.
pub record AreFileEdits (f : SourceFile) (r : Renamed) (edits : List Edit) : Type 0 where
  pub end_by : EndBy edits (length f.cut.text)
  pub each : (e : Edit) → Contains edits e ↔ ((i : ℕ) × IsEditAt f r i e)
  pub once : NoneTwice edits
