-- What is found in packages after a harmless rename: no fault, and export data with one other name at most.
use Rattle.std.specs.Prelude.{ℕ, ◌≡◌, false, List, [], Some, slice_get, Contains}
use Rattle.base_edits.specs.EditSet.{FileChanges, edited}
use Rattle.base_edits.specs.Revisions.{Revision}
use Rattle.base_edits.specs.RevisionsOfEdits.{revision_of}
use Rattle.base_files.specs.Packages.{package_paths}
use Rattle.base_files.specs.Workspace.{Workspace}
use Rattle.go_ast.specs.SourceFile.{SourceFile}
use Rattle.types_expr.specs.World.{World}
use Rattle.types_stmt.specs.Declarations.{check_file}
use Rattle.types_declared.specs.declared.fault.Fault.{Fault}
use Rattle.types_declared.specs.Package.{Package}
use Rattle.types_info.specs.Worlds.{IsWorldOf, is_init}
use Rattle.types_check.specs.Check.{IsLaterFault}
use Rattle.workspace_check.specs.FaultLists.{ListsFaults}
use Rattle.workspace_check.specs.Verdicts.{Verdicts, AreVerdicts, BuildsOn}
use Rattle.refs_binding.specs.declared.declaration.Declaration.{Declaration}
use Rattle.refs_binding.specs.Uses.{IsCheckedPackage}
use Rattle.law_changed_types.specs.SameBindings.{IsBoundAlike}
use Rattle.law_renamed_workspaces.specs.Harmless.{IsHarmless}
use Rattle.law_renamed_workspaces.specs.Layouts.{IsRelaid}
use Rattle.law_renamed_workspaces.specs.MovedExports.{AreMovedExports}
use Rattle.law_renamed_workspaces.specs.Renames.{IsPlainRename}
use Rattle.law_renamed_workspaces.specs.MembersMoved.{IsDefinitionAfter, AreSeenAfter}

-- The package `q` of the edited workspace is the package `p` after the change, with other names and the same bindings. It sees of other
-- packages what `p` saw, with new names of members.
pub record IsPackageAfter (w : Workspace) (before after : Verdicts) (s : FileChanges) (p q : Package) : Type 0 where
  pub was : IsCheckedPackage w before p
  pub is : IsCheckedPackage (edited s w) after q
  pub relaid : IsRelaid (revision_of w s) p q
  pub bound : IsBoundAlike p q
  pub seen : AreSeenAfter (IsCheckedPackage w before) (revision_of w s) p q

-- What is found of each file of such a package is what was found before.
abbrev pub FoundStays : Type 0
FoundStays = (w : Workspace) (before after : Verdicts) (d : Declaration) (name : List ℕ) (s : FileChanges) → IsPlainRename w before d name s →
    IsHarmless w before (revision_of w s) → (p q : Package) → IsPackageAfter w before after s p q → (file : ℕ) (f g : SourceFile) (v x : World) →
    slice_get p.files file ≡ Some f → slice_get q.files file ≡ Some g → IsWorldOf p file f v → IsWorldOf q file g x →
    check_file x (is_init g) g.tree ≡ check_file v (is_init f) f.tree

-- So such a package has no fault of scopes, members or types.
abbrev pub NoFaultComes : Type 0
NoFaultComes = (w : Workspace) (before after : Verdicts) (d : Declaration) (name : List ℕ) (s : FileChanges) → IsPlainRename w before d name s →
    AreVerdicts (edited s w) after → IsHarmless w before (revision_of w s) → (p q : Package) → IsPackageAfter w before after s p q →
    (fault : Fault) → IsLaterFault q fault → ⊥

-- The package at the path has no fault after the change. Its export data are those of before, with one other exported name at most and new
-- names of members.
pub record IsMovedVerdict (w : Workspace) (before after : Verdicts) (r : Revision) (path : List ℕ) : Type 0 where
  pub sound : (after path).faulty ≡ false
  pub name : (after path).export_data.name ≡ (before path).export_data.name
  pub exported : AreMovedExports (before path).export_data.exported (after path).export_data.exported
  pub definitions : (rank : ℕ) →
      IsDefinitionAfter (IsCheckedPackage w before) r path rank ((before path).export_data.definition rank) ((after path).export_data.definition rank)

-- The verdict on a package moves so where those on the packages that it builds on do.
abbrev pub VerdictsStayAbove : Type 0
VerdictsStayAbove = (w : Workspace) (before after : Verdicts) (d : Declaration) (name : List ℕ) (s : FileChanges) → IsPlainRename w before d name s →
    AreVerdicts (edited s w) after → IsHarmless w before (revision_of w s) → (path : List ℕ) → Contains (package_paths w) path →
    ((q : List ℕ) → BuildsOn w path q → IsMovedVerdict w before after (revision_of w s) q) → IsMovedVerdict w before after (revision_of w s) path

-- So, along the imports, the verdict on each package moves so.
abbrev pub VerdictsStay : Type 0
VerdictsStay = (w : Workspace) (before after : Verdicts) (d : Declaration) (name : List ℕ) (s : FileChanges) → IsPlainRename w before d name s →
    AreVerdicts (edited s w) after → IsHarmless w before (revision_of w s) → (path : List ℕ) → Contains (package_paths w) path →
    IsMovedVerdict w before after (revision_of w s) path

-- So the workspace has no fault after a rename in which no import gains a name. `after` has the verdicts on its packages.
abbrev pub PlainWorkspaceStaysSound : Type 0
PlainWorkspaceStaysSound = (w : Workspace) (before after : Verdicts) (d : Declaration) (name : List ℕ) (s : FileChanges) → IsPlainRename w before d name s →
    AreVerdicts (edited s w) after → IsHarmless w before (revision_of w s) → ListsFaults (edited s w) []
