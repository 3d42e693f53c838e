-- The edit set that gives a declaration, and what is renamed with it, another name.
use Rattle.std.specs.Prelude.{ℕ, ◌≡◌, List, [], Contains}
use Rattle.base_files.specs.Workspace.{Workspace}
use Rattle.go_ast.specs.SourceFile.{SourceFile}
use Rattle.types_declared.specs.Package.{Package}
use Rattle.workspace_check.specs.Verdicts.{Verdicts}
use Rattle.base_edits.specs.EditSet.{FileChanges, change_of}
use Rattle.base_edits.specs.Moved.{edits_by}
use Rattle.base_edits.specs.declared.change.FileChange.{FileChange}
use Rattle.base_edits.specs.declared.change.Fate.TheVariants.{Stays}
use Rattle.refs_binding.specs.declared.declaration.Declaration.{Declaration}
use Rattle.refs_binding.specs.Uses.{IsCheckedPackage}
use Rattle.refs_uses.specs.UsesOfEach.{ListsUsesOfEach}
use Rattle.refactor_rename.specs.declared.renamed.Renamed.{Renamed}
use Rattle.refactor_rename.specs.FileEdits.{AreFileEdits}
use Rattle.refactor_rename.specs.Literals.{IsPathLiteralOf, IsLiteralFound}

-- `r` is what gets the name: the identifiers that are bound to one of the set, and the string literal of `d` where it is an import without a
-- name.
pub record IsRenamedBy (w : Workspace) (known : Verdicts) (d : Declaration) (set : List Declaration) (name : List ℕ) (r : Renamed) : Type 0 where
  pub uses : ListsUsesOfEach w known set r.places
  pub literal : IsLiteralFound (IsPathLiteralOf (IsCheckedPackage w known) d) r.literal
  pub named : r.name ≡ name

-- `f` is a parsed file of some package of the workspace.
pub record IsSourceIn (w : Workspace) (known : Verdicts) (f : SourceFile) : Type 0 where
  pub inside : Package
  pub is_package : IsCheckedPackage w known inside
  pub has : Contains inside.files f

-- The change edits a Go file and leaves it at its path.
pub record EditsSource (w : Workspace) (known : Verdicts) (c : FileChange) : Type 0 where
  pub source : SourceFile
  pub is_source : IsSourceIn w known source
  pub of_path : source.path ≡ c.path
  pub stays : c.fate ≡ Stays

-- The edit set has in each Go file just the edits of the tokens that get the name. It changes no other file, and adds none.
pub record AreEditsOf (w : Workspace) (known : Verdicts) (r : Renamed) (s : FileChanges) : Type 0 where
  pub each : (f : SourceFile) → IsSourceIn w known f → AreFileEdits f r (edits_by (change_of s f.path))
  pub only : (c : FileChange) → Contains s.changed c → EditsSource w known c
  pub none_added : s.added ≡ []

-- The edit set gives the declaration `d`, and all of the set, the name `name`: at each identifier that is bound to one of the set.
pub record AreRenameEdits (w : Workspace) (known : Verdicts) (d : Declaration) (set : List Declaration) (name : List ℕ) (s : FileChanges) : Type 0 where
  pub renamed : Renamed
  pub is_renamed : IsRenamedBy w known d set name renamed
  pub edits : AreEditsOf w known renamed s
