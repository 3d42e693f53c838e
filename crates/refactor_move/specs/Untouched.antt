-- Files in which a move edits nothing.
use Rattle.std.specs.Prelude.{ℕ, List}
use Rattle.std.specs.Global.{Vec}
use Rattle.std.specs.Prelude.{Bool}
use Rattle.go_ast.specs.SourceFile.{SourceFile}
use Rattle.base_edits.specs.declared.edit.Edit.{Edit}
use Rattle.refactor_move.specs.declared.moved.Moved.{Moved}
use Rattle.refactor_move.specs.FileEdits.{ReplacesPath}
use Rattle.refactor_move.specs.Uses.{IsMarkedEditAt, ReplacesMarkedName}

-- No edit replaces the path of an import.
abbrev pub HasNoMovedImport : SourceFile → Moved → Type 0
HasNoMovedImport f m = (i : ℕ) (e : Edit) → ReplacesPath f m i e → ⊥

-- No edit replaces a name, by the marks of the file's package.
abbrev pub HasNoMarkedName : (path : List ℕ) → (rank : ℕ) → SourceFile → Moved → List (Vec Bool) → Type 0
HasNoMarkedName path rank f m rows = (i : ℕ) (e : Edit) → ReplacesMarkedName path rank f m rows i e → ⊥

-- No token has an edit.
abbrev pub HasNoMarkedEdit : (path : List ℕ) → (rank : ℕ) → SourceFile → Moved → List (Vec Bool) → Type 0
HasNoMarkedEdit path rank f m rows = (i : ℕ) (e : Edit) → IsMarkedEditAt path rank f m rows i e → ⊥
