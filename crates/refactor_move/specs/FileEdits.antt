-- The edits of a move in one file: of import paths, and of names that refer to the package.
use Rattle.std.specs.Prelude.{ℕ, ◌≡◌, ◌↔◌, ◌⊎◌, List, Some, Contains, length, slice_get}
use Rattle.go_scanner.specs.declared.piece.Piece.{Piece}
use Rattle.go_scanner.specs.declared.piece.Class.TheVariants.{Name}
use Rattle.go_scanner.specs.CutText.{tokens_in}
use Rattle.go_ast.specs.SourceFile.{SourceFile}
use Rattle.workspace_graph.specs.FileImports.{import_literals}
use Rattle.base_edits.specs.declared.edit.Edit.{Edit}
use Rattle.types_declared.specs.Files.{HasLiteral}
use Rattle.types_declared.specs.Laid.{literal_of}
use Rattle.types_declared.specs.Package.{Package}
use Rattle.types_declared.specs.Written.{BindsToken, DeclaresImport}
use Rattle.refactor_rename.specs.FileEdits.{EndBy}
use Rattle.refactor_move.specs.declared.moved.Moved.{Moved}
use Rattle.refactor_move.specs.Paths.{HasMovedPackage, quoted}

-- The token `i` is the string literal of an import of a package that moves, and the edit replaces it by the new path.
--
--   import "lib/shapes"      // moving lib/shapes to geo/shapes
--   import "geo/shapes"
pub record ReplacesPath (f : SourceFile) (m : Moved) (i : ℕ) (e : Edit) : Type 0 where
  pub token : Piece
  pub at : slice_get (tokens_in f.cut) i ≡ Some token
  pub is_import : Contains (import_literals f.tree) i
  pub old : List ℕ
  pub stands_for : HasLiteral f i old
  pub new : List ℕ
  pub moves : HasMovedPackage m.from m.to old new
  pub is_edit : e ≡ record { span = token.span; text = quoted new }

-- The token `i` is the name in the package clause of a file of the package that moves.
abbrev pub IsClauseNameToken : Package → SourceFile → Moved → ℕ → Type 0
IsClauseNameToken p f m i = (p.path ≡ m.from) × (f.tree.name ≡ i)

-- The token `i` is bound to an import, without a name, of the package that moves. `rank`: that of the file in its package.
pub record IsImportUse (p : Package) (rank : ℕ) (m : Moved) (i : ℕ) : Type 0 where
  pub import : ℕ
  pub binds : BindsToken p rank i import
  pub unnamed : literal_of p.layout import ≡ import
  pub imports : DeclaresImport p import m.from

-- The token `i` is the name in a package clause or a use of an import without a name. The edit replaces it by the new name of the package.
--
--   import "shapes"                        // moving shapes to areas
--   func f() int { return shapes.Area() }  // becomes areas.Area()
pub record ReplacesPackageName (p : Package) (rank : ℕ) (f : SourceFile) (m : Moved) (i : ℕ) (e : Edit) : Type 0 where
  pub token : Piece
  pub at : slice_get (tokens_in f.cut) i ≡ Some token
  pub is_name : token.class ≡ Name
  pub names : IsClauseNameToken p f m i ⊎ IsImportUse p rank m i
  pub name : List ℕ
  pub follows : m.name ≡ Some name
  pub is_edit : e ≡ record { span = token.span; text = name }

-- The edit `e` of a move is that of the token `i`.
abbrev pub IsMoveEditAt : Package → (rank : ℕ) → SourceFile → Moved → ℕ → Edit → Type 0
IsMoveEditAt p rank f m i e = ReplacesPath f m i e ⊎ ReplacesPackageName p rank f m i e

-- These are the edits of all tokens of a file, in order. `rank`: that of the file in its package.
pub record AreFileMoveEdits (p : Package) (rank : ℕ) (f : SourceFile) (m : Moved) (edits : List Edit) : Type 0 where
  pub end_by : EndBy edits (length f.cut.text)
  pub each : (e : Edit) → Contains edits e ↔ ((i : ℕ) × IsMoveEditAt p rank f m i e)
