-- The changes of a workspace's files in which identifiers get another name.
use Rattle.std.specs.Prelude.{ℕ, ◌≡◌, ◌⊎◌, List, [], ◌∷◌, ◌++◌, Option, Some, None, Contains}
use Rattle.std.specs.List.Sorted.{IsStrictlySortedBy}
use Rattle.base_files.specs.Workspace.{Workspace, path_cmp}
use Rattle.base_files.specs.declared.place.Place.{Place}
use Rattle.go_ast.specs.SourceFile.{SourceFile}
use Rattle.workspace_check.specs.Verdicts.{Verdicts}
use Rattle.base_edits.specs.EditSet.{paths_of}
use Rattle.base_edits.specs.declared.edit.Edit.{Edit}
use Rattle.base_edits.specs.declared.change.FileChange.{FileChange}
use Rattle.base_edits.specs.declared.change.Fate.TheVariants.{Stays}
use Rattle.refactor_rename.specs.declared.renamed.Literal.{Literal}
use Rattle.refactor_rename.specs.declared.renamed.Renamed.{Renamed}
use Rattle.refactor_rename.specs.FileEdits.{AreFileEdits}
use Rattle.refactor_rename.specs.RenameEdits.{IsSourceIn}

-- One of the places lies in the file at this path.
abbrev pub IsPathOfPlace : List Place → List ℕ → Type 0
IsPathOfPlace places path = (p : Place) × (Contains places p × (p.path ≡ path))

-- The literal, if there is one, lies in the file at this path.
abbrev pub IsPathOfLiteral : Option Literal → List ℕ → Type 0
IsPathOfLiteral None path = ⊥
IsPathOfLiteral (Some l) path = l.path ≡ path

-- An identifier or a literal that gets the name lies in the file at this path.
abbrev pub IsPathToEdit : Renamed → List ℕ → Type 0
IsPathToEdit r path = IsPathOfPlace r.places path ⊎ IsPathOfLiteral r.literal path

-- The change that edits the file `f` and leaves it at its path.
abbrev pub change_to : SourceFile → List Edit → FileChange
change_to f edits = record { path = f.path; edits = edits; fate = Stays }

-- The change of the file `f` is appended, unless nothing gets another name in it.
pub data AddsChange (f : SourceFile) (r : Renamed) (old : List FileChange) : List FileChange → Type 0 where
  none : AreFileEdits f r [] → AddsChange f r old old
  one : (edits : List Edit) → AreFileEdits f r edits → AddsChange f r old (old ++ change_to f edits ∷ [])

-- This is the change, by a rename, of some file of some package.
pub record ChangesSource (w : Workspace) (known : Verdicts) (r : Renamed) (c : FileChange) : Type 0 where
  pub source : SourceFile
  pub is_source : IsSourceIn w known source
  pub edits : AreFileEdits source r c.edits
  pub is_change : c ≡ change_to source c.edits

-- The list has a change of the file `f`, or nothing gets another name in it.
abbrev pub HasChangeOf : List FileChange → Renamed → SourceFile → Type 0
HasChangeOf changes r f = ((c : FileChange) × (Contains changes c × (c.path ≡ f.path))) ⊎ AreFileEdits f r []

-- The changes of all files in which something gets another name, sorted by path.
pub record AreSourceChanges (w : Workspace) (known : Verdicts) (r : Renamed) (changes : List FileChange) : Type 0 where
  pub by_path : IsStrictlySortedBy path_cmp (paths_of changes)
  pub each : (c : FileChange) → Contains changes c → ChangesSource w known r c
  pub all : (f : SourceFile) → IsSourceIn w known f → HasChangeOf changes r f
