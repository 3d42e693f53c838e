-- The change of one file where a package moves: its edits and its path after the move.
use Rattle.std.specs.Prelude.{ℕ, ◌≡◌, ◌⊎◌, true, false, List, [], Option, Some, slice_get}
use Rattle.base_files.specs.Packages.{is_go}
use Rattle.base_files.specs.Workspace.{Workspace}
use Rattle.go_ast.specs.SourceFile.{SourceFile}
use Rattle.types_declared.specs.Package.{Package}
use Rattle.workspace_check.specs.Verdicts.{Verdicts}
use Rattle.base_edits.specs.declared.change.FileChange.{FileChange}
use Rattle.base_edits.specs.declared.change.Fate.TheVariants.{Stays, Moves}
use Rattle.base_edits.specs.declared.edit.Edit.{Edit}
use Rattle.refs_binding.specs.Uses.{IsCheckedPackage}
use Rattle.refactor_move.specs.declared.moved.Moved.{Moved}
use Rattle.refactor_move.specs.Paths.{IsUnder, HasMovedFile}
use Rattle.refactor_move.specs.FileEdits.{AreFileMoveEdits}

-- The file at this path belongs to some package, and these are its edits.
pub record AreGoEdits (w : Workspace) (known : Verdicts) (m : Moved) (path : List ℕ) (edits : List Edit) : Type 0 where
  pub inside : Package
  pub is_package : IsCheckedPackage w known inside
  pub rank : ℕ
  pub source : SourceFile
  pub has_rank : slice_get inside.files rank ≡ Some source
  pub of_path : source.path ≡ path
  pub are : AreFileMoveEdits inside rank source m edits

-- The edits of the file at this path. A file that is no Go file has none.
pub record AreMoveEditsOf (w : Workspace) (known : Verdicts) (m : Moved) (path : List ℕ) (edits : List Edit) : Type 0 where
  pub go : is_go path ≡ true → AreGoEdits w known m path edits
  pub other : is_go path ≡ false → edits ≡ []

-- The path after the move of the file at `path`: another one if the file lies in the folder that moves.
abbrev pub IsPathAfter : Moved → (path : List ℕ) → Option (List ℕ) → Type 0
IsPathAfter m path after = ((new : List ℕ) × (HasMovedFile m.from m.to path new × (after ≡ Some new))) ⊎ ((IsUnder m.from path → ⊥) × (after ≡ Some path))

-- The change moves its file, or edits it and leaves it at its path.
abbrev pub MovesOrEdits : Moved → FileChange → Type 0
MovesOrEdits m c = ((new : List ℕ) × (HasMovedFile m.from m.to c.path new × (c.fate ≡ Moves new))) ⊎
    ((IsUnder m.from c.path → ⊥) × ((c.fate ≡ Stays) × (c.edits ≡ [] → ⊥)))
