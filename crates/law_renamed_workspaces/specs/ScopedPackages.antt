-- The packages of a workspace by their scopes: those of a faultless workspace, and those after a plain rename.
use Rattle.std.specs.Prelude.{ℕ, ◌≡◌, List, []}
use Rattle.base_files.specs.Workspace.{Workspace}
use Rattle.base_files.specs.declared.place.Place.{Place}
use Rattle.base_edits.specs.EditSet.{FileChanges, edited}
use Rattle.base_edits.specs.Revisions.{Revision}
use Rattle.base_edits.specs.RevisionsOfEdits.{revision_of}
use Rattle.go_scope.specs.declared.model.Position.{Position}
use Rattle.go_scope.specs.Bindings.{Counts}
use Rattle.types_declared.specs.Laid.{literal_of}
use Rattle.types_declared.specs.Package.{Package}
use Rattle.workspace_check.specs.FaultLists.{ListsFaults}
use Rattle.workspace_check.specs.Verdicts.{Verdicts, AreVerdicts}
use Rattle.refs_binding.specs.declared.declaration.Declaration.{Declaration}
use Rattle.refs_binding.specs.Binding.{IsPredeclaredNumber}
use Rattle.refs_binding.specs.DeclaringPlaces.{TokenAt}
use Rattle.refs_binding.specs.Identifiers.{BeginsAt}
use Rattle.refs_binding.specs.Uses.{IsCheckedPackage}
use Rattle.refactor_conflict.specs.ScopedPackages.{IsScopedIn}
use Rattle.law_renamed_workspaces.specs.Layouts.{IsRelaid}
use Rattle.law_renamed_workspaces.specs.Renames.{IsPlainRename}

-- The package `o` has the files and the scopes of `q`.
pub record HasSameScopes (q o : Package) : Type 0 where
  pub path : o.path ≡ q.path
  pub layout : o.layout ≡ q.layout
  pub names : o.names ≡ q.names
  pub size : o.size ≡ q.size
  pub files : o.files ≡ q.files

-- In a workspace without faults each package that is checked has the scopes that it has without checking.
abbrev pub FaultlessPackagesAreScoped : Type 0
FaultlessPackagesAreScoped = (x : Workspace) (known : Verdicts) → AreVerdicts x known → ListsFaults x [] → (q : Package) → IsCheckedPackage x known q →
    (o : Package) × (IsScopedIn x o × HasSameScopes q o)

-- A declaration of a package's own scopes has a place.
abbrev pub DeclarationsHavePlaces : Type 0
DeclarationsHavePlaces = (w : Workspace) (known : Verdicts) (p : Package) → IsCheckedPackage w known p → (d : ℕ) → Counts p.layout p.names d →
    (IsPredeclaredNumber d → ⊥) → (place : Place) × TokenAt p (p.layout.place (literal_of p.layout d)) place

-- Each token of the package `q` begins where the change moves the token of this position in `p`. Names stay names.
pub record HasMovedTokens (r : Revision) (p q : Package) : Type 0 where
  pub tokens : (at : Position) (place : Place) → TokenAt p at place → TokenAt q at (r.moved place)
  pub names : (u : ℕ) (place : Place) → BeginsAt p place.path place.offset u → BeginsAt q (r.moved place).path (r.moved place).offset u

-- By scopes each package is there after a plain rename, relaid, with its tokens moved. This asks for no verdict of the edited workspace.
abbrev pub ScopedPackagesAreRelaid : Type 0
ScopedPackagesAreRelaid = (w : Workspace) (known : Verdicts) (d : Declaration) (name : List ℕ) (s : FileChanges) → IsPlainRename w known d name s →
    (p : Package) → IsCheckedPackage w known p →
    (q : Package) × (IsScopedIn (edited s w) q × (IsRelaid (revision_of w s) p q × HasMovedTokens (revision_of w s) p q))
