-- The layout of a package under a rename: the same identifiers with other names.
use Rattle.std.specs.Prelude.{ℕ, ◌≡◌, false, List, Some, slice_get}
use Rattle.base_files.specs.Workspace.{Workspace}
use Rattle.base_files.specs.declared.place.Place.{Place}
use Rattle.go_scanner.specs.CutText.{tokens_in}
use Rattle.go_ast.specs.SourceFile.{SourceFile}
use Rattle.base_edits.specs.EditSet.{FileChanges, edited, change_of}
use Rattle.base_edits.specs.Moved.{edits_by}
use Rattle.go_scope.specs.declared.model.Position.{Position}
use Rattle.go_respelled.specs.Renamings.{AreNameEdits}
use Rattle.go_respelled.specs.Trees.{KeepKinds}
use Rattle.types_declared.specs.Package.{Package, spelled}
use Rattle.law_changed_types.specs.SameBindings.{trees_of, paths_of}
use Rattle.workspace_check.specs.Verdicts.{Verdicts, AreVerdicts, BuildsOn}
use Rattle.refs_binding.specs.declared.declaration.Declaration.{Declaration}
use Rattle.refs_binding.specs.Identifiers.{BeginsAt, IsNameToken}
use Rattle.refs_binding.specs.DeclaringPlaces.{TokenAt}
use Rattle.refs_binding.specs.Uses.{IsCheckedPackage}
use Rattle.refactor_rename.specs.RenameEdits.{IsSourceIn}
use Rattle.base_edits.specs.Revisions.{Revision}
use Rattle.base_edits.specs.RevisionsOfEdits.{revision_of}
use Rattle.law_renamed_workspaces.specs.Renames.{IsPlainRename}

-- By file: the edits of a rename put names in the place of names, and neither is `_`; so the laws of renamed texts speak of each file.
abbrev pub RenamesAreNameEdits : Type 0
RenamesAreNameEdits = (w : Workspace) (known : Verdicts) (d : Declaration) (name : List ℕ) (s : FileChanges) → IsPlainRename w known d name s →
    (f : SourceFile) → IsSourceIn w known f →
    AreNameEdits f.cut.pieces (edits_by (change_of s f.path)) × KeepKinds f.cut.text (edits_by (change_of s f.path))

-- a name stands at the position, and begins at the place
pub record IsToken (p : Package) (at : Position) (place : Place) : Type 0 where
  pub file : SourceFile
  pub of_rank : slice_get p.files at.file ≡ Some file
  pub is_name : IsNameToken (slice_get (tokens_in file.cut) at.index)
  pub begins : TokenAt p at place

-- q is p with other names: the same path, layout and trees, and each name called as the change has it
pub record IsRelaid (r : Revision) (p q : Package) : Type 0 where
  pub path : q.path ≡ p.path
  pub size : q.size ≡ p.size
  pub layout : q.layout ≡ p.layout
  pub trees : trees_of q.files ≡ trees_of p.files
  pub paths : paths_of q.files ≡ paths_of p.files
  pub tokens : (at : Position) (place : Place) → IsToken p at place → spelled q at.file at.index ≡ r.called place (spelled p at.file at.index)
  pub other_tokens : (at : Position) → ((place : Place) → IsToken p at place → ⊥) → spelled q at.file at.index ≡ spelled p at.file at.index
  pub names : (u : ℕ) (place : Place) → BeginsAt p place.path place.offset u → q.names u ≡ r.called place (p.names u)
  pub other_names : (u : ℕ) → ((place : Place) → BeginsAt p place.path place.offset u → ⊥) → q.names u ≡ p.names u

-- The packages that a package builds on have no faults afterwards, and the names that they had. Without this an import without a name
-- could cease to declare.
pub record AreSoundBelow (w : Workspace) (before after : Verdicts) (path : List ℕ) : Type 0 where
  pub faultless : (q : List ℕ) → BuildsOn w path q → (after q).faulty ≡ false
  pub named : (q : List ℕ) → BuildsOn w path q → (after q).export_data.name ≡ (before q).export_data.name

-- By package: where those below have no faults afterwards, each package of the workspace is there afterwards, relaid.
abbrev pub PackagesAreRelaid : Type 0
PackagesAreRelaid = (w : Workspace) (before after : Verdicts) (d : Declaration) (name : List ℕ) (s : FileChanges) → IsPlainRename w before d name s →
    AreVerdicts (edited s w) after → (p : Package) → IsCheckedPackage w before p → AreSoundBelow w before after p.path →
    (q : Package) × (IsCheckedPackage (edited s w) after q × IsRelaid (revision_of w s) p q)
