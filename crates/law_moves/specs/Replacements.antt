-- Edits that put names in the place of names and paths in double quotes in the place of string literals, and the file after them.
use Rattle.std.specs.Prelude.{ℕ, ◌≡◌, ◌⊎◌, ◌==◌, Bool, true, List, map}
use Rattle.std.specs.List.{All, Contains, list_any, slice_range}
use Rattle.base_files.specs.Path.{IsPath}
use Rattle.go_scanner.specs.declared.piece.Class.{Class}
use Rattle.go_scanner.specs.declared.piece.Class.TheVariants.{Name, InterpretedString, RawString}
use Rattle.go_scanner.specs.declared.piece.Piece.{Piece}
use Rattle.go_scanner.specs.CutText.{CutText, tokens_in}
use Rattle.go_scanner.specs.Pieces.{IsPiece}
use Rattle.go_scanner.specs.TokenValues.{IsStringClass}
use Rattle.go_ast.specs.Kinds.{kind_of_name}
use Rattle.go_ast.specs.SourceFile.{SourceFile, IsSourceFile}
use Rattle.base_edits.specs.Edits.{AreInOrder, edited_text}
use Rattle.base_edits.specs.EditSet.{FileChanges, change_of}
use Rattle.base_edits.specs.Moved.{edits_by, moved_offset}
use Rattle.base_edits.specs.declared.edit.Edit.{Edit}
use Rattle.base_files.specs.Workspace.{Workspace}
use Rattle.workspace_check.specs.Verdicts.{Verdicts}
use Rattle.refactor_move.specs.Paths.{quoted}
use Rattle.refactor_rename.specs.RenameEdits.{IsSourceIn}
use Rattle.law_moves.specs.Moves.{IsMove}

-- The bytes are a path in double quotes.
pub record IsQuotedPath (bytes : List ℕ) : Type 0 where
  pub path : List ℕ
  pub is_path : IsPath 1 path
  pub spelled : bytes ≡ quoted path

-- The bytes may take the place of a piece of this class: of a name a name, and of a string literal a path in double quotes.
abbrev pub MayReplace : Class → List ℕ → Type 0
MayReplace class bytes = ((class ≡ Name) × IsPiece Name bytes) ⊎ (IsStringClass class × IsQuotedPath bytes)

-- The edit replaces one of the pieces.
pub record IsReplacement (pieces : List Piece) (e : Edit) : Type 0 where
  pub old : Piece
  pub is_piece : Contains pieces old
  pub span : e.span ≡ old.span
  pub may : MayReplace old.class e.text

-- The edits are in order, and each replaces a piece.
pub record AreReplacedPieces (pieces : List Piece) (edits : List Edit) : Type 0 where
  pub in_order : AreInOrder 0 edits
  pub each : All (IsReplacement pieces) edits

-- The class of a piece that is replaced: a raw string becomes an interpreted one.
abbrev pub class_by : Class → Bool → Class
class_by RawString true = InterpretedString
class_by class replaced = class

-- Whether an edit begins where the piece does.
abbrev pub is_replaced : List Edit → Piece → Bool
is_replaced edits p = list_any (λ e. e.span.start == p.span.start) edits

-- The piece with its ends where the edits move them, and the class that it has after them.
abbrev pub new_piece : List Edit → Piece → Piece
new_piece edits p = record {
  class = class_by p.class (is_replaced edits p);
  span = record { start = moved_offset edits p.span.start; end = moved_offset edits p.span.end };
}

-- The text after the edits, with its pieces.
abbrev pub replaced : List Edit → CutText → CutText
replaced edits c = record { text = edited_text edits c.text; pieces = map (new_piece edits) c.pieces }

-- Each edit replaces `_` by `_`, or an identifier other than `_` by such an identifier, or no identifier at all.
abbrev pub KeepNameKinds : CutText → List Edit → Type 0
KeepNameKinds c edits = All (λ e. IsPiece Name e.text → kind_of_name e.text ≡ kind_of_name (slice_range c.text e.span.start e.span.end)) edits

-- The file with its text and pieces after the edits, and its old tree. `path`: its path after them.
abbrev pub replaced_file : (path : List ℕ) → List Edit → SourceFile → SourceFile
replaced_file path edits f = record { path = path; cut = replaced edits f.cut; tree = f.tree }

-- The new text is cut into the old pieces, with their ends moved. Its tokens are the old tokens so, and the tree stays.
abbrev pub ReplacedFilesKeepTrees : Type 0
ReplacedFilesKeepTrees = (path : List ℕ) (edits : List Edit) (f : SourceFile) → IsSourceFile f → AreReplacedPieces f.cut.pieces edits →
    KeepNameKinds f.cut edits → IsSourceFile (replaced_file path edits f) ×
    (tokens_in (replaced edits f.cut) ≡ map (new_piece edits) (tokens_in f.cut))

-- By file: the edits of a move are such edits.
abbrev pub MovesAreReplacements : Type 0
MovesAreReplacements = (w : Workspace) (known : Verdicts) (from to : List ℕ) (s : FileChanges) → IsMove w known from to s → (f : SourceFile) →
    IsSourceIn w known f → AreReplacedPieces f.cut.pieces (edits_by (change_of s f.path)) × KeepNameKinds f.cut (edits_by (change_of s f.path))
