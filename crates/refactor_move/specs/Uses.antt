-- The names that refer to the package that moves, as marks by package, file and token.
use Rattle.std.specs.Prelude.{ℕ, ◌≡◌, ◌↔◌, ◌⊎◌, Bool, true, false, List, [], Option, Some, None, Contains, length, map, slice_get, slice_index_or}
use Rattle.std.specs.Global.{Vec}
use Rattle.base_files.specs.Workspace.{Workspace}
use Rattle.go_scanner.specs.declared.piece.Piece.{Piece}
use Rattle.go_scanner.specs.declared.piece.Class.TheVariants.{Name}
use Rattle.go_scanner.specs.CutText.{tokens_in}
use Rattle.go_ast.specs.SourceFile.{SourceFile, source_of}
use Rattle.base_edits.specs.declared.edit.Edit.{Edit}
use Rattle.types_declared.specs.Package.{Package}
use Rattle.workspace_check.specs.Verdicts.{Verdicts}
use Rattle.refs_binding.specs.Workspaces.{IsPackageAt}
use Rattle.refactor_rename.specs.FileEdits.{EndBy}
use Rattle.refactor_move.specs.declared.moved.Moved.{Moved}
use Rattle.refactor_move.specs.declared.package_edits.MovedPackage.{MovedPackage}
use Rattle.refactor_move.specs.FileEdits.{IsImportUse, ReplacesPath}

-- The marks of the tokens of a file, if there are any.
abbrev pub marks_in_row : Option (Vec Bool) → List Bool
marks_in_row None = []
marks_in_row (Some row) = row.items

-- Whether a token of a file is marked.
abbrev pub mark_at : List (Vec Bool) → (file token : ℕ) → Bool
mark_at rows file token = slice_index_or (marks_in_row (slice_get rows file)) token false

-- The marks of the files of a package, if there are any.
abbrev pub marks_in_package : Option (Vec (Vec Bool)) → List (Vec Bool)
marks_in_package None = []
marks_in_package (Some rows) = rows.items

-- The marks of the files of the package of a number.
abbrev pub rows_at : List (Vec (Vec Bool)) → (number : ℕ) → List (Vec Bool)
rows_at uses number = marks_in_package (slice_get uses number)

-- The token is a name.
pub record IsNameTokenAt (p : Package) (file token : ℕ) : Type 0 where
  pub source : SourceFile
  pub of_rank : slice_get p.files file ≡ Some source
  pub piece : Piece
  pub at : slice_get (tokens_in source.cut) token ≡ Some piece
  pub is_name : piece.class ≡ Name

-- What is marked is bound to an import, without a name, of the package that moves. If the package gets a new name, each name that is bound
-- so is marked.
pub record MarksUses (p : Package) (m : Moved) (rows : List (Vec Bool)) : Type 0 where
  pub only : (file token : ℕ) → mark_at rows file token ≡ true → IsImportUse p file m token
  pub all : (name : List ℕ) → m.name ≡ Some name → (file token : ℕ) → IsNameTokenAt p file token → IsImportUse p file m token → mark_at rows file token ≡ true

-- So it is in each package of the workspace.
abbrev pub KnowsUses : Workspace → Verdicts → Moved → List (Vec (Vec Bool)) → Type 0
KnowsUses w known m uses = (number : ℕ) (p : Package) → IsPackageAt w known number p → MarksUses p m (rows_at uses number)

-- The edits by the marks, of the file of a rank in the package of a path

-- The token is the name in the package clause of a file of the package that moves, or it is marked.
abbrev pub IsRenamedToken : (path : List ℕ) → (rank : ℕ) → SourceFile → Moved → List (Vec Bool) → ℕ → Type 0
IsRenamedToken path rank f m rows i = ((path ≡ m.from) × (f.tree.name ≡ i)) ⊎ (mark_at rows rank i ≡ true)

-- The edit replaces such a name by the new name of the package.
pub record ReplacesMarkedName (path : List ℕ) (rank : ℕ) (f : SourceFile) (m : Moved) (rows : List (Vec Bool)) (i : ℕ) (e : Edit) : Type 0 where
  pub token : Piece
  pub at : slice_get (tokens_in f.cut) i ≡ Some token
  pub is_name : token.class ≡ Name
  pub names : IsRenamedToken path rank f m rows i
  pub name : List ℕ
  pub follows : m.name ≡ Some name
  pub is_edit : e ≡ record { span = token.span; text = name }

-- The edit is that of the token `i`.
abbrev pub IsMarkedEditAt : (path : List ℕ) → (rank : ℕ) → SourceFile → Moved → List (Vec Bool) → ℕ → Edit → Type 0
IsMarkedEditAt path rank f m rows i e = ReplacesPath f m i e ⊎ ReplacesMarkedName path rank f m rows i e

-- These are the edits of all tokens of the file, in order.
pub record AreMarkedEdits (path : List ℕ) (rank : ℕ) (f : SourceFile) (m : Moved) (rows : List (Vec Bool)) (edits : List Edit) : Type 0 where
  pub end_by : EndBy edits (length f.cut.text)
  pub each : (e : Edit) → Contains edits e ↔ ((i : ℕ) × IsMarkedEditAt path rank f m rows i e)

-- `p` is the package with these files and this path, and its uses are marked.
pub record IsPackageOfMove (p : Package) (of : MovedPackage) : Type 0 where
  pub path : p.path ≡ of.path.now
  pub files : p.files ≡ map source_of of.files.now
  pub marks : MarksUses p of.moved.now of.rows.now
